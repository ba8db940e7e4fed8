pub mod Addressed
pub mod NoWords
pub mod Parsed
pub mod Sinks
