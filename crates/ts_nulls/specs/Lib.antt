pub mod Shape
pub mod Packets
pub mod Nulls
pub mod Text
