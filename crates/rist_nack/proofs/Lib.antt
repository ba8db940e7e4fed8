pub mod AskLemmas
pub mod Rows
