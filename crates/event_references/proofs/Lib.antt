mod Prelude
pub mod TextLaw
pub mod LostLaw
pub mod Loops
pub mod Parts
