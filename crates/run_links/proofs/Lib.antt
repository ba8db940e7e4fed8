pub mod KeptLemmas
pub mod WordLemmas
pub mod FailedLemmas
pub mod BroughtLemmas
