pub mod PairPlans
pub mod Overlay
pub mod PairCommits
