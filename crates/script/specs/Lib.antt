pub mod Colons
pub mod Decimals
pub mod Texts
