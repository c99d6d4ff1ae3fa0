pub mod Weight
pub mod Word
pub mod State
