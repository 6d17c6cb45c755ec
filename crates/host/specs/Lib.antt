pub mod State
pub mod Calls
pub mod Refusals
pub mod Steps
