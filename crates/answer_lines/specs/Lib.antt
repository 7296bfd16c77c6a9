pub mod Values
pub mod Lines
pub mod Marks
pub mod Progress
pub mod AnswerRead
pub mod Computing
