pub mod Causes
pub mod Told
pub mod Calls
pub mod Memory
pub mod MemSource
pub mod Real
