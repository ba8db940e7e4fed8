pub mod Capture
pub mod Tests
pub mod Heads
pub mod Reader
pub mod Reading
pub mod Writer
pub mod Text
pub mod Inside
