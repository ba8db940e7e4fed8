pub mod Gre
pub mod Reading
pub mod Writing
pub mod Text
