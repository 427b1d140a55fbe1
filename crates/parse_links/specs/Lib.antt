pub mod White
pub mod Quoted
pub mod Destination
pub mod Tails
pub mod Definition
