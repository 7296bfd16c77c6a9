pub mod EachLaid
pub mod Laid
pub mod ShortClauses
pub mod BothWays
pub mod Settled
