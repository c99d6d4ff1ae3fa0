pub mod Pages
pub mod Walk
pub mod Trees
pub mod Words
pub mod Full
pub mod Chunk
pub mod Search
pub mod Opening
