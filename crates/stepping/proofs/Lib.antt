pub mod RulesAt
pub mod OneStep
pub mod Settled
