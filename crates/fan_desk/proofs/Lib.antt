pub mod OneLemmas
pub mod OwnLemmas
pub mod RowLemmas
pub mod WriteLemmas
pub mod MadeLemmas
pub mod EndLemmas
pub mod KnowLemmas
