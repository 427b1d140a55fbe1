mod Prelude
pub mod Bars
pub mod Parts
pub mod Columns
pub mod Delimiters
pub mod Starts
