pub mod PlaceLemmas
pub mod PeerLemmas
pub mod RefusalLemmas
pub mod HandedLemmas
pub mod FrameLemmas
