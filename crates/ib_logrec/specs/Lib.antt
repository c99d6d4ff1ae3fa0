pub mod KeyWords
pub mod Heads
pub mod Words
pub mod Grammar
pub mod Log
pub mod Law
