pub mod FrameLemmas
pub mod SendLemmas
pub mod PiecesLemmas
pub mod WholeLemmas
pub mod DoesSendLemmas
