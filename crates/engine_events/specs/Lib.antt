pub mod Columns
pub mod Points
pub mod Links
pub mod Events
pub mod Names
