pub mod Quotes
pub mod View
pub mod Fences
