pub mod Record
pub mod Meaning
pub mod Examples
pub mod Computing
