pub mod Meters
pub mod Lines
pub mod ReceiverLines
pub mod Tellers
pub mod Tellings
pub mod Meterings
