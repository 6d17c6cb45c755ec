pub mod Timed
pub mod Order
pub mod Kept
