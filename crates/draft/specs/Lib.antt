pub mod State
pub mod Statements
pub mod Drafts
