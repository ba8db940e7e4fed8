pub mod SplitLemmas
pub mod SplitHostLemmas
pub mod DoesSplitLemmas
