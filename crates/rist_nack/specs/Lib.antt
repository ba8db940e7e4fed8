pub mod Requests
pub mod Asked
pub mod State
pub mod Seen
pub mod Written
