pub mod RightSide
pub mod LaidDown
pub mod Settled
