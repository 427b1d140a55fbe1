pub mod Letters
pub mod Listing
pub mod Attributes
pub mod Raw
pub mod State
pub mod PageParts
pub mod Listed
