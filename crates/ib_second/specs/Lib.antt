pub mod Stands
pub mod PairReady
pub mod PathImages
pub mod PairComes
pub mod PairFinds
pub mod Calls
pub mod PairShared
