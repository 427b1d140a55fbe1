pub mod Each
pub mod Data
pub mod Whitespace
pub mod RawText
