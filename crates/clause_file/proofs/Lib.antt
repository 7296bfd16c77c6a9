pub mod Fitting
pub mod Answers
pub mod LongestBook
