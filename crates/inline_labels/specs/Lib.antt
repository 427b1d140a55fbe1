pub mod Chunks
pub mod Table
