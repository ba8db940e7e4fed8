pub mod EndsLemmas
pub mod GatingLemmas
pub mod TakenLemmas
pub mod ReachedLemmas
pub mod DoesGateLemmas
