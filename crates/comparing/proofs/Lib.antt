pub mod Stepwise
pub mod Compared
pub mod Nodes
pub mod Settled
