pub mod Flow
pub mod Span
pub mod Reader
pub mod ReaderLaws
