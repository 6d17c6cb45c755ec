pub mod Grammar
pub mod Performs
pub mod Starts
pub mod Verbs
