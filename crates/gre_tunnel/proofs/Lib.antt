pub mod FieldLemmas
pub mod HeaderLemmas
mod Rows
