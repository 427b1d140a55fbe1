pub mod Calls
pub mod Footnotes
pub mod Output
