pub mod Tears
pub mod Text
pub mod Inside
