pub mod OctetLemmas
pub mod NumberLemmas
pub mod FlagLemmas
pub mod TestLemmas
pub mod LineLemmas
