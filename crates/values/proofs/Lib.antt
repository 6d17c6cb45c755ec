pub mod Runs
pub mod Lookups
pub mod Pieces
pub mod Within
