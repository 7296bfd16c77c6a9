pub mod Cases
pub mod Decimal
pub mod LastDigit
pub mod Words
pub mod Laying
pub mod Each
pub mod Settled
