pub mod Receiver
pub mod Requests
pub mod Inside
