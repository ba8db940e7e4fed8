pub mod Asks
pub mod Help
pub mod Checks
pub mod Ranged
