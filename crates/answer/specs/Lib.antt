pub mod Ranks
pub mod PaddedRanks
pub mod Computing
