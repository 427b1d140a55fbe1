pub mod HardBreakTrailingLemmas
pub mod LineEndingLemmas
pub mod Codes
pub mod Endings
pub mod Fronts
pub mod GfmTaskListItemLemmas
pub mod CharacterReferenceLemmas
