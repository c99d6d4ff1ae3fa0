pub mod Files
pub mod Replays
pub mod RawLogs
pub mod OldLogs
pub mod TreeSteps
