pub mod Codes
pub mod Texts
pub mod View
pub mod Bare
pub mod Unmarked
