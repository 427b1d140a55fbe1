pub mod Endings
pub mod Inlines
pub mod Laws
pub mod Kinds
pub mod PageLaws
pub mod Refused
pub mod Symbols
