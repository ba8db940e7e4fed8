pub mod Causes
pub mod Form
pub mod Giving
pub mod Port
pub mod Leaves
pub mod Text
pub mod Inside
