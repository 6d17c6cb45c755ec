pub mod Many
pub mod Parts
