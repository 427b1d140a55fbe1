pub mod Lines
mod Begun
pub mod Items
mod GfmTaskListItem
mod Gaps
pub mod PageLaw
