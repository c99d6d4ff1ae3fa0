pub mod Halts
pub mod Steps
