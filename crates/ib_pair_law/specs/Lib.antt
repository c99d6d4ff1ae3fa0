pub mod Opening
pub mod PairKept
pub mod PairLog
pub mod PairFits
