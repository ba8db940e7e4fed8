pub mod SeriesLemmas
pub mod PeakLemmas
pub mod TotalLemmas
