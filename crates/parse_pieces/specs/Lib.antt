pub mod Sizes
pub mod Nodes
pub mod Written
pub mod Drafts
pub mod Laws
pub mod Codes
pub mod Coming
pub mod PlaceLaws
