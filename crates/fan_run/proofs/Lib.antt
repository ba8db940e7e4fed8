pub mod ConcludeLemmas
pub mod RunLemmas
