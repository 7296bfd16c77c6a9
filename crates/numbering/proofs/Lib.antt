pub mod Small
pub mod Counted
pub mod Settled
