pub mod Seen
pub mod Fan
pub mod Lends
