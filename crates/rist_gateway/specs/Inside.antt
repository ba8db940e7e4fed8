-- What private contracts cite.
pub mod Moves
pub mod Sides
pub mod Played
