pub mod Keys
pub mod Output
pub mod Spans
