pub mod Steps
pub mod Moves
pub mod Bytes
pub mod Inner
