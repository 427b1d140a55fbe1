pub mod Definition
pub mod Kind
pub mod Listed
pub mod Span
pub mod Target
