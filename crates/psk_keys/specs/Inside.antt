pub mod Cached
pub mod Keyed
