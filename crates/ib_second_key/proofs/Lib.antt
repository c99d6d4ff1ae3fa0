pub mod SecondKeyLaws
pub mod SecondMapLaws
pub mod ValueLaws
mod PlacedLaws
