pub mod Under
pub mod Calls
pub mod Leaf
pub mod Ends
