pub mod Stepping
pub mod Reporting
