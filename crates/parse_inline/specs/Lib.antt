pub mod Lines
pub mod Texts
pub mod Leaves
pub mod Checks
pub mod Leaving
pub mod Holes
pub mod Rows
