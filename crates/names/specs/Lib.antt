pub mod Named
pub mod Depth
