-- What private contracts cite.
pub mod Making
pub mod Fanning
