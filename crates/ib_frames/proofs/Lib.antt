mod Reading
mod LaidOut
mod Storing
pub mod Trying
