pub mod CaptureLemmas
pub mod DatagramLemmas
pub mod StepLemmas
pub mod PackLemmas
pub mod LawLemmas
