pub mod Plain
pub mod Strings
pub mod References
