pub mod Leaves
pub mod Scanned
pub mod GfmTaskListItem
