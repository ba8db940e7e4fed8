pub mod Bonding
pub mod Sendings
pub mod Stored
pub mod Retransmissions
pub mod Rows
