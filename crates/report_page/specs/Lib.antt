pub mod Page
pub mod Reported
