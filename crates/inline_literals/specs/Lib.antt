pub mod Addresses
pub mod Literals
