pub mod LabelEnd
pub mod GfmAutolinkLiteral
pub mod Autolink
pub mod Views
