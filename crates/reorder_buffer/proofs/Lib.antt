pub mod PhaseLemmas
mod PlaceLemmas
mod RingLemmas
mod AroundLemmas
mod SpanLemmas
mod RingChangeLemmas
mod HeldLemmas
pub mod StateAfterLemmas
mod WriteLemmas
mod ReleaseLemmas
mod ReceiveLemmas
mod DueLemmas
pub mod OpeningLemmas
