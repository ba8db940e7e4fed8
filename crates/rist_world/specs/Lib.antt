pub mod Tally
pub mod World
pub mod Mover
pub mod Drill
pub mod Script
pub mod Made
pub mod Summary
pub mod Counted
