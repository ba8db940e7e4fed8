pub mod LineLemmas
pub mod OptionLemmas
