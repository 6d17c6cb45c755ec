pub mod Scan
pub mod Told
pub mod Runs
