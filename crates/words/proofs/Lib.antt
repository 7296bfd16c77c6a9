pub mod Parts
pub mod Pieces
pub mod UpTo
pub mod SameText
pub mod Numbers
pub mod Settled
