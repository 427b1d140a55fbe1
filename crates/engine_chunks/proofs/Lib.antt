pub mod Steps
pub mod Writes
pub mod Joining
