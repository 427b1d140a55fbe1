mod Prelude
mod Notes
mod NoDefinition
mod NoFootnote
