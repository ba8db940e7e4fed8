-- What the plain programs of the receiver's rules are told, keep and answer.
pub mod Told
pub mod Kept
pub mod Run
