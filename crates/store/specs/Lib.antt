pub mod Try
pub mod Stores
pub mod Held
