pub mod Counts
pub mod Edits
pub mod Replacement
pub mod Placing
