pub mod Full
pub mod Copies
pub mod Changes
pub mod Steps
