pub mod Many
pub mod Moves
pub mod Bytes
