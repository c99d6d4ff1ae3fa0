pub mod Restoring
pub mod Answers
pub mod Copying
