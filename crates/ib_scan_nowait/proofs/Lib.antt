pub mod LookLaws
pub mod NextLaws
pub mod LoopLaws
pub mod EndLaws
