pub mod Sessions
pub mod Sent
pub mod Ends
pub mod Pieces
pub mod Frame
pub mod Complete
pub mod DoesSend
pub mod Inside
