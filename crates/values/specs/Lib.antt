pub mod Expand
pub mod Kept
pub mod Fills
pub mod Scopes
pub mod Tests
