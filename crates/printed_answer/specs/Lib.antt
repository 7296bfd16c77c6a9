pub mod WellFormed
pub mod NoModel
pub mod Decided
pub mod Usual
pub mod Computing
