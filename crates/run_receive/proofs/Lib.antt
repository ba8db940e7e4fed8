pub mod CutOffLemmas
pub mod EndsLemmas
pub mod ReceiveLemmas
pub mod HeardLemmas
pub mod ReachedLemmas
pub mod DoesReceiveLemmas
