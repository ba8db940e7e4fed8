pub mod Extension
pub mod Reading
pub mod Counted
pub mod Text
