-- What private contracts of the counting cite.
pub mod Taking
