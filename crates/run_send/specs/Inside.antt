-- What private contracts cite.
pub mod Sending
