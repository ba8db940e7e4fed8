pub mod LinkLemmas
pub mod ParameterLemmas
