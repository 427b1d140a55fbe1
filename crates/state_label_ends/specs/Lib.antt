pub mod Definitions
pub mod LabelEnd
pub mod EndStates
