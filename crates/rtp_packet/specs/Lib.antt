pub mod Rtp
pub mod Reading
pub mod Writing
pub mod Text
