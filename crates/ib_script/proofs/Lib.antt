pub mod Building
pub mod CallRead
pub mod ListsGrow
pub mod Readings
mod GeneratedLaws
