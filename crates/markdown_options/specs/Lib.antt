pub mod LineEndings
pub mod Mdx
pub mod Defaults
pub mod Places
pub mod Messages
pub mod References
