pub mod Places
pub mod SilentLemmas
pub mod LinkGivingLemmas
pub mod LinkOpeningLemmas
pub mod SinkNameLemmas
pub mod SinkGivingLemmas
pub mod SinkOpeningLemmas
