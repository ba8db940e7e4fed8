pub mod Endings
pub mod Receiving
pub mod Exact
pub mod Setup
pub mod Workers
pub mod Run
pub mod Turns
pub mod Inside
