pub mod Rows
pub mod Own
pub mod Origin
pub mod Made
