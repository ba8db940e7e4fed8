mod Rows
pub mod BondingLemmas
pub mod StoredLemmas
