mod GatherLemmas
mod LendLemmas
mod MoveLemmas
mod OnwardLemmas
mod RunLemmas
pub mod SideLemmas
mod TurnLemmas
