pub mod Hashes
pub mod Lists
pub mod Settles
pub mod Places
pub mod Laws
pub mod Outcomes
pub mod Finishes
