pub mod Ctr
pub mod Inside
