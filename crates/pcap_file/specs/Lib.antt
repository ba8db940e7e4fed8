pub mod Pcap
pub mod Tests
pub mod Reader
pub mod Reading
pub mod Converted
pub mod Text
pub mod Inside
