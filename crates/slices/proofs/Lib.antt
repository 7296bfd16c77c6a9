pub mod AddUp
pub mod Settled
