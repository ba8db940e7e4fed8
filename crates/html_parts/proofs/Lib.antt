pub mod DigitLemmas
pub mod ChartLemmas
