pub mod Numbered
pub mod Rules
pub mod Settled
