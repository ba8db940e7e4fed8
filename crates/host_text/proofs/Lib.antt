pub mod PartLemmas
pub mod HostLemmas
