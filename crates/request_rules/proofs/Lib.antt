mod Rows
pub mod BuildingLemmas
pub mod WordLemmas
pub mod KeptLemmas
pub mod NearLemmas
