pub mod Events
pub mod EventText
pub mod Latching
pub mod Answers
