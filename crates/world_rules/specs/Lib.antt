pub mod SentFlows
pub mod Reached
pub mod Flows
pub mod World
pub mod Short
pub mod Counts
