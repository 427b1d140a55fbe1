pub mod Sizes
pub mod Nodes
pub mod Written
pub mod Drafts
pub mod Points
pub mod Events
pub mod Nested
pub mod Merged
