pub mod Loose
pub mod Levels
pub mod Printable
pub mod Places
