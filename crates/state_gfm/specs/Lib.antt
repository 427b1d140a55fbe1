pub mod GfmAutolinkLiteral
pub mod GfmLabelStartFootnote
pub mod GfmTaskListItemCheck
pub mod GfmStates
