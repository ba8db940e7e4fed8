-- What private contracts and the visitor of a replay cite.
pub mod Visiting
