pub mod ReadRules
pub mod BlockCount
pub mod Settled
