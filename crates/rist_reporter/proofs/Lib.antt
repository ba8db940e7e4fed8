mod Rows
pub mod LengthLemmas
pub mod GroupLemmas
pub mod LinksLemmas
pub mod TickLemmas
pub mod MediaLemmas
pub mod AskingLemmas
