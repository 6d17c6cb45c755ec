pub mod Turns
pub mod Pairs
