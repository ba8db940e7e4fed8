pub mod DrawLemmas
pub mod WordLemmas
