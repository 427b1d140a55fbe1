pub mod Texts
pub mod Fronts
pub mod LiteralFronts
pub mod Verbatim
mod Lines
mod LetterRuns
