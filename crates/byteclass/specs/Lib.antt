pub mod Class
pub mod Words
