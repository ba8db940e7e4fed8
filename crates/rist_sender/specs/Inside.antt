-- What private contracts cite.
pub mod Numbers
pub mod Kept
pub mod Puts
