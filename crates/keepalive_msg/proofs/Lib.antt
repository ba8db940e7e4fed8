pub mod MessageLemmas
mod Rows
