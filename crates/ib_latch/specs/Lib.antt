pub mod Tries
pub mod Unlocks
pub mod Waits
pub mod Refusals
