mod Prelude
mod Printed
mod Said
mod HtmlText
mod Targets
mod Inline
mod BlockLines
mod GfmTable
pub mod Page
pub mod Composed
pub mod Raw
pub mod LabelMatch
pub mod Definition
pub mod SpelledStrings
pub mod Strings
pub mod GfmFootnoteDefinition
pub mod Spelled
pub mod Examples
