pub mod Steps
pub mod Voids
pub mod Law
