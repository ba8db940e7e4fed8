-- What private contracts cite.
pub mod Answers
pub mod Gating
