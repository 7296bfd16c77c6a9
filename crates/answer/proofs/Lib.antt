pub mod Cases
pub mod RankSums
pub mod PaddedRanks
pub mod RanksAgree
pub mod Afterwards
pub mod Settled
