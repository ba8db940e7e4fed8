mod Pigeonhole
mod NonceLemmas
