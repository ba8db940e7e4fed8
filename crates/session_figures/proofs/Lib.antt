pub mod JitterLemmas
pub mod PlayoutLemmas
pub mod FigureLemmas
pub mod LawLemmas
