pub mod Nonces
pub mod Sealer
pub mod Pairs
