pub mod TakingTurns
pub mod RecordRuns
pub mod RunsTo
pub mod Settled
