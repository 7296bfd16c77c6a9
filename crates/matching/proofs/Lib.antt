pub mod Alike
pub mod Binding
pub mod NodeByNode
pub mod LeftsAt
pub mod RuleByRule
pub mod Looking
pub mod Settled
