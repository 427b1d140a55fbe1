pub mod Resolving
pub mod Content
