pub mod Lookups
pub mod Leaf
pub mod Grows
pub mod Shrinks
pub mod Changes
pub mod IndexLaw
pub mod Refusals
pub mod NowaitGrows
