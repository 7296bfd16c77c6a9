pub mod Cases
pub mod ReadRecord
pub mod Stands
pub mod RecordBack
pub mod ReadExactly
pub mod Steps
pub mod Going
pub mod Settled
