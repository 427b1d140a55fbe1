pub mod Ascii
pub mod Chunks
pub mod FirstWord
pub mod Joined
pub mod Places
pub mod LabelWords
