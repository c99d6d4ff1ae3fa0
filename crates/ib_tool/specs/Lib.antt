pub mod Words
pub mod Counts
pub mod Texts
pub mod Answers
