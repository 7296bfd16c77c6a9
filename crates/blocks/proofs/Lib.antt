pub mod RulesWalk
pub mod RulesBlocks
pub mod FileBlocks
pub mod BlockCall
pub mod Settled
