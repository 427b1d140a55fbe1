pub mod Replaced
pub mod Tools
pub mod Laws
pub mod Prints
