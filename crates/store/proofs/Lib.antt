pub mod Bytes
pub mod Keeps
