pub mod Precedence
pub mod Exceeds
pub mod Test
pub mod Clearing
pub mod SameRanks
pub mod ReductionOrder
pub mod Computing
