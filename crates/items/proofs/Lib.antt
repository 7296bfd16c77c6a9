pub mod OneItem
pub mod Settled
