pub mod HeadLemmas
pub mod ReadingLemmas
pub mod WritingLemmas
pub mod FormatLemmas
