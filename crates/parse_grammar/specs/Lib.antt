pub mod Leaves
pub mod LabelLaws
pub mod LeadingLaws
pub mod Constructs
pub mod Nodes
pub mod ConstructLaws
pub mod MatchLaws
pub mod ShapeLaws
