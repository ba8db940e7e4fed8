pub mod Chunks
pub mod Compound
pub mod Name
pub mod Reading
pub mod Writing
pub mod Seen
pub mod Text
