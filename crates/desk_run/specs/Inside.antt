-- What private contracts cite.
pub mod Deciding
