pub mod WordLemmas
pub mod CountedLemmas
pub mod SizeLemmas
