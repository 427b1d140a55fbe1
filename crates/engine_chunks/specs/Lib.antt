pub mod Chunks
pub mod Parts
pub mod Joins
