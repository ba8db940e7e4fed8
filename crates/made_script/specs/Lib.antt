pub mod Words
pub mod Payload
pub mod Draws
