pub mod History
pub mod Inside
pub mod Passes
pub mod Turns
