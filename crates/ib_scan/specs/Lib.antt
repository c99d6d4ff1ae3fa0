pub mod Walked
pub mod Scanning
pub mod Parts
pub mod Leaves
pub mod Steps
pub mod Scans
pub mod Stored
