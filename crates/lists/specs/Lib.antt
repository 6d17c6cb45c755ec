pub mod Each
pub mod Files
pub mod Paths
pub mod Meaning
