pub mod AskLemmas
pub mod LineLemmas
