-- What private contracts cite.
pub mod Answers
