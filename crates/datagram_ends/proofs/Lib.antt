pub mod SendLemmas
pub mod HeldLemmas
