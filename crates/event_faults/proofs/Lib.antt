mod Prelude
mod Examples
pub mod PlaceLaws
pub mod Counts
pub mod Runs
pub mod TreeLaw
pub mod Leaves
pub mod Spaces
pub mod Marks
pub mod Passes
