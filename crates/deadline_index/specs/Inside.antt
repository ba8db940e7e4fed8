-- What only the bodies need.
pub mod Levels
pub mod Near
