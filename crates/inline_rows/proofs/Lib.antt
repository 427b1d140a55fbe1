mod Prelude
pub mod Balanced
pub mod Container
pub mod Depth
pub mod LineEnding
pub mod Needed
pub mod Runs
pub mod Writes
