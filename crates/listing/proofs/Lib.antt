pub mod Hex
pub mod Puts
pub mod Texts
pub mod Zeros
