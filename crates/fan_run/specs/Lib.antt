pub mod Passes
pub mod Concluded
pub mod Brought
pub mod Run
pub mod Inside
