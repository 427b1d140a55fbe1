pub mod Definitions
pub mod ListedLinks
pub mod Parts
pub mod Spans
