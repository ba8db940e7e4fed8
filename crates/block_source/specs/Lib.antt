pub mod Block
pub mod Lending
pub mod Pieces
pub mod Reading
