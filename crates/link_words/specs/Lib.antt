pub mod Texts
pub mod Names
pub mod Hosts
pub mod Urls
pub mod Parameters
pub mod Positions
pub mod Addresses
pub mod Text
