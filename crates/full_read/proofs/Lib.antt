mod Reading
mod Given
mod Settled
