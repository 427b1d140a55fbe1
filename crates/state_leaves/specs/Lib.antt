pub mod Attention
pub mod CharacterEscape
pub mod CharacterReference
pub mod HardBreakEscape
pub mod Data
pub mod RawText
pub mod LeafStates
