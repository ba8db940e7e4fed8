pub mod FieldLemmas
pub mod SpelledLemmas
pub mod ReadLemmas
pub mod WholeLemmas
pub mod WritingLemmas
mod Rows
