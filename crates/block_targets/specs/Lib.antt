pub mod Read
pub mod GfmFootnoteDefinition
