pub mod Parts
pub mod Hosts
pub mod Settings
