pub mod Pends
pub mod Keeps
pub mod Since
