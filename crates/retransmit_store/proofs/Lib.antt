pub mod StoreLemmas
pub mod HistoryLemmas
