-- What private contracts cite.
pub mod Turns
pub mod Sofar
pub mod Frames
