-- What the plain program of the rules of requests is told.
pub mod Told
