pub mod Laws
pub mod GfmFootnoteDefinition
pub mod GfmTaskListItem
