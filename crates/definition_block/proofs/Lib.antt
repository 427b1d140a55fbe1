pub mod LeafLines
pub mod GfmFootnoteDefinition
pub mod BlockReads
pub mod ListReads
