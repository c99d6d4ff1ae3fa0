pub mod Slots
pub mod Rule
pub mod Pass
pub mod Guesses
pub mod Calls
pub mod Right
pub mod Lookups
pub mod Tries
