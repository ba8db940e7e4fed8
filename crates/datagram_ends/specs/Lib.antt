pub mod Media
pub mod Ends
pub mod Held
pub mod Looks
