pub mod PairClauses
pub mod Settled
