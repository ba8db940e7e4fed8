pub mod Text
pub mod Capture
pub mod Packing
pub mod Inside
