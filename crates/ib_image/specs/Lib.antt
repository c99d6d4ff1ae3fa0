pub mod Copies
pub mod Copying
pub mod ImageFiles
pub mod Tails
pub mod ImageFaults
pub mod Restored
pub mod Parsed
pub mod Applied
