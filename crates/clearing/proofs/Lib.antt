pub mod Lowest
pub mod Rules
pub mod Verdicts
pub mod Settled
