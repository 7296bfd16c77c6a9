pub mod TermText
pub mod Settled
