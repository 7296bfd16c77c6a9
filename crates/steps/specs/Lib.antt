pub mod Fits
pub mod Step
pub mod NextStep
pub mod Run
pub mod Argument
pub mod Computing
