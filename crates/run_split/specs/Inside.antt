-- What private contracts cite.
pub mod Splitting
