pub mod Hex
pub mod Lines
