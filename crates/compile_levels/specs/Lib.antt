pub mod Kinds
pub mod Levels
pub mod Siblings
pub mod Children
