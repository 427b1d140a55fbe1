mod Prelude
pub mod Codes
pub mod Spelled
pub mod Fills
pub mod Strings
pub mod References
pub mod ReferenceSteps
pub mod SameText
pub mod PlainNodes
pub mod SoundNodes
pub mod Texts
pub mod Characters
pub mod Parts
pub mod OfBytes
