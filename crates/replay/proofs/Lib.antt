pub mod Endings
pub mod Order
