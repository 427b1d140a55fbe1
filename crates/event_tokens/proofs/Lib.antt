pub mod Nothing
pub mod Characters
pub mod Utf8Bytes
