pub mod Rows
pub mod SameLemmas
pub mod TearLemmas
pub mod FirstLemmas
