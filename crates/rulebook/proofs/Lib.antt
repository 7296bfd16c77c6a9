pub mod BookTold
pub mod Settled
