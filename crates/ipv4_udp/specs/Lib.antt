pub mod Sum
pub mod Ip
pub mod Reading
pub mod Writing
pub mod Place
pub mod Text
pub mod Inside
