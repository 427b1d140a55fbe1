pub mod Steps
pub mod GfmAutolinkLiteral
