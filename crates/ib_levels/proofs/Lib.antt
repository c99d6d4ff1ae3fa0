pub mod Orderly
pub mod Holdings
pub mod Counts
