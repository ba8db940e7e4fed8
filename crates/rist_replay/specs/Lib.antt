pub mod Steps
pub mod Replay
pub mod Exact
pub mod Counted
pub mod Inside
