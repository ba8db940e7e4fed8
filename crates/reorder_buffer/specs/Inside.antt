pub mod Span
pub mod Ring
pub mod Around
pub mod Shown
pub mod Sound
pub mod Tests
pub mod Release
pub mod Changes
