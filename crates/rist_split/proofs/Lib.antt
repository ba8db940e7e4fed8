pub mod TellingLemmas
pub mod SplitLemmas
pub mod OutputLemmas
pub mod FlowLemmas
