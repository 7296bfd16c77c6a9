pub mod Nodes
pub mod TwoNodes
pub mod Rules
