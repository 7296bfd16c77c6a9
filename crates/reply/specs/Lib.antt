pub mod Reply
pub mod Refusals
pub mod Lent
pub mod Replied
pub mod Computing
