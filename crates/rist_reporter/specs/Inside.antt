pub mod Groups
pub mod Noted
pub mod Due
pub mod Sound
pub mod Changes
