-- What private contracts cite.
pub mod Passing
