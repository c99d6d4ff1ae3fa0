pub mod Replaying
pub mod Answers
