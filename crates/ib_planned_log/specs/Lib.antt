pub mod Kept
pub mod Steps
pub mod KeptLog
pub mod LeafChange
