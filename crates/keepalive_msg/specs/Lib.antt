pub mod Keepalive
pub mod Reading
pub mod Writing
pub mod Text
