pub mod Counting
pub mod Sessions
pub mod Frame
pub mod Complete
pub mod Brought
