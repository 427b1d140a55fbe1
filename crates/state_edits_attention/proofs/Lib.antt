pub mod Containers
pub mod Steps
