pub mod EndLemmas
pub mod OwnLemmas
pub mod SharedLemmas
