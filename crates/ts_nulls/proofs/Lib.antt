pub mod StripLemmas
pub mod RestoreLemmas
pub mod LawLemmas
