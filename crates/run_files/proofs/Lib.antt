pub mod WalkLemmas
pub mod ExactLemmas
pub mod CutOffLemmas
pub mod CompleteLemmas
pub mod UntouchedLemmas
pub mod DoesFilesLemmas
