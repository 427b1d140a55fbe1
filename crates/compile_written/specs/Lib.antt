pub mod Child
pub mod Within
pub mod Texts
pub mod Strings
pub mod Definition
pub mod GfmFootnoteDefinition
pub mod List
