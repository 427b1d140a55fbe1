pub mod Alike
pub mod Unlisted
pub mod Layouts
pub mod ListedAlike
pub mod SamePages
pub mod GfmFootnoteDefinition
pub mod GfmTaskListItem
