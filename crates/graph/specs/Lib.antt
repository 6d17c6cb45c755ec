pub mod Data
pub mod Circle
pub mod Rows
pub mod Question
pub mod Lawful
pub mod Graphs
