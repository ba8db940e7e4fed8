pub mod CommandLemmas
pub mod ParseLemmas
pub mod PartRanges
pub mod RangeLemmas
mod Rows
pub mod LinkLemmas
pub mod OutLemmas
