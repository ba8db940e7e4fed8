pub mod Echo
pub mod Smoothed
