pub mod Codes
pub mod Putting
pub mod Reading
