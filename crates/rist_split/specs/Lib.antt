pub mod Split
pub mod Outputs
pub mod Inside
