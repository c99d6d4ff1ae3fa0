pub mod Reads
pub mod Appends
pub mod Storing
