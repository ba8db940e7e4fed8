pub mod KeptLemmas
pub mod AgainLemmas
pub mod SendLemmas
pub mod GivenLemmas
pub mod EventLemmas
pub mod PutLemmas
pub mod TurnLemmas
pub mod LawLemmas
pub mod FlowLemmas
mod Rows
pub mod ServedLemmas
pub mod DownLemmas
pub mod PeerLemmas
