-- What private contracts cite.
pub mod Telling
pub mod Splitting
pub mod Making
