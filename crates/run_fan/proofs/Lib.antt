pub mod MakingLemmas
pub mod RunLemmas
pub mod ReachedLemmas
pub mod FannedLemmas
pub mod DoesFanLemmas
