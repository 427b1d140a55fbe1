mod Prelude
pub mod Fills
pub mod Sound
pub mod Written
pub mod Places
pub mod Found
pub mod Children
pub mod Spaces
pub mod Marks
pub mod Tails
pub mod Resources
pub mod Definitions
