pub mod SumLemmas
pub mod UdpLemmas
pub mod HeaderLemmas
pub mod WholeLemmas
pub mod WritingLemmas
pub mod PlaceLemmas
mod Rows
