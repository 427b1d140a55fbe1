mod Prelude
pub mod ChildLaw
pub mod StringLaw
pub mod Characters
pub mod PlaceTexts
pub mod CheckedNodes
pub mod DefinitionLaw
pub mod FootnoteLaw
pub mod ListLaw
pub mod OpenLevels
pub mod Numbers
pub mod FormedTexts
pub mod Waiting
pub mod StringLoops
pub mod DefinitionLoops
pub mod FootnoteLoops
pub mod NoFootnotes
pub mod WrittenTargets
