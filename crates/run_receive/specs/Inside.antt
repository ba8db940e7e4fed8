-- What private contracts cite.
pub mod Receiving
