pub mod MoveLemmas
pub mod PieceLemmas
pub mod GivenLemmas
pub mod PayloadLemmas
pub mod PacketLemmas
pub mod DownLemmas
pub mod UnsealedLemmas
pub mod WaitingLemmas
