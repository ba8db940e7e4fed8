pub mod Commands
pub mod Values
pub mod Links
pub mod Outs
pub mod CommandLine
pub mod Ranges
pub mod Shown
pub mod Text
