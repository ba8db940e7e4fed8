pub mod CountLemmas
pub mod NumberLemmas
pub mod FillLemmas
pub mod SteppingLemmas
pub mod ReportLemmas
pub mod StepLemmas
pub mod FigureLemmas
