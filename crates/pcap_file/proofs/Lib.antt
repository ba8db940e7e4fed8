pub mod NumberLemmas
pub mod TakenLemmas
pub mod StepLemmas
pub mod FormatLemmas
mod Rows
