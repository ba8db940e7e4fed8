pub mod Words
pub mod Tables
pub mod Tower
pub mod Mix
pub mod Keys
pub mod Rounds
pub mod Rows
