pub mod Model
pub mod Meaning
