pub mod Tokens
pub mod Bytes
pub mod Laws
pub mod Shape
