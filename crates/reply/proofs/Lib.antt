pub mod Cases
pub mod Tests
pub mod Given
pub mod Refusals
pub mod Replied
pub mod Settled
pub mod Every
