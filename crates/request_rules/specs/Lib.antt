pub mod Steps
pub mod Words
pub mod Building
pub mod Missing
pub mod Requests
pub mod Near
pub mod Times
pub mod Rows
