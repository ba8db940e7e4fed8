pub mod Asides
pub mod Own
pub mod Stands
