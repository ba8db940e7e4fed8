pub mod Options
pub mod Placing
pub mod Line
pub mod Text
