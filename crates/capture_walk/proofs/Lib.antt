pub mod GoingLemmas
pub mod CaptureLemmas
pub mod PortLemmas
pub mod PortEndLemmas
pub mod EndingLemmas
pub mod CompleteLemmas
pub mod PortCompleteLemmas
pub mod FileLemmas
