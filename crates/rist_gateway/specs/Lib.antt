pub mod Course
pub mod Onward
pub mod Sides
pub mod Workers
pub mod Inside
pub mod Setup
pub mod Run
