-- What only the timer's own functions and proofs need.
pub mod Sound
pub mod Pass
pub mod Raise
