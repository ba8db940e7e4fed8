pub mod AgreeLemmas
pub mod ConcludeLemmas
pub mod EndLemmas
pub mod SeatLemmas
pub mod SeenLemmas
pub mod RunLemmas
pub mod TurnsLemmas
