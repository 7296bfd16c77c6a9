pub mod Walk
pub mod Identical
pub mod Behind
pub mod PartsAt
pub mod NodesBlock
pub mod SubtermsAt
pub mod RuleNumbers
pub mod Settled
