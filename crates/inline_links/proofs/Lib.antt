mod Prelude
pub mod Bare
pub mod Cuts
pub mod DefinitionTexts
pub mod Places
pub mod Runs
pub mod Splits
pub mod Texts
pub mod Unmarked
