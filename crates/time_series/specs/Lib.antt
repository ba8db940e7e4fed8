pub mod Points
pub mod Peaks
pub mod Inside
