mod Prelude
pub mod Changes
pub mod Going
pub mod DefinitionLemmas
pub mod GfmTableLemmas
