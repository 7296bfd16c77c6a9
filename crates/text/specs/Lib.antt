pub mod Decimal
pub mod Text
pub mod Laying
pub mod Computing
