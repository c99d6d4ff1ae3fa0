pub mod Level
pub mod Listed
pub mod Held
pub mod Holding
