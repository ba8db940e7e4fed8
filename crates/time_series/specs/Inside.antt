-- What private contracts of a series cite.
pub mod Widening
pub mod Rising
