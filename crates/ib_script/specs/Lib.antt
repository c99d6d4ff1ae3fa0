pub mod Lists
pub mod Script
pub mod PairScript
pub mod Building
pub mod Loads
pub mod Generated
pub mod Tallies
