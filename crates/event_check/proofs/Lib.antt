mod Prelude
pub mod NodeKinds
pub mod Steps
pub mod Fits
pub mod FitsBack
pub mod Joined
pub mod LooseLaw
pub mod AlignLaw
pub mod Matching
