pub mod Marks
pub mod Naming
pub mod OneWord
pub mod ValueLine
pub mod OneLine
pub mod LineKinds
pub mod AllLines
pub mod Settled
