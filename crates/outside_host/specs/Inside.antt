-- What private contracts cite.
pub mod Links
pub mod Sinks
