pub mod Settled
pub mod Exports
