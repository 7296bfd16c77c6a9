pub mod ArgumentPart
pub mod HandedOut
pub mod Unread
pub mod Settled
