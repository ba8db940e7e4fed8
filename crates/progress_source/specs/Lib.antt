pub mod Extents
pub mod Meters
pub mod Outlets
pub mod Showings
