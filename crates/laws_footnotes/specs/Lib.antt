pub mod Footnotes
pub mod Section
pub mod Defined
pub mod Ids
