pub mod Pausing
pub mod Payloads
