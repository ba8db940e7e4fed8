pub mod KeptLemmas
pub mod RunLemmas
mod AskingLemmas
