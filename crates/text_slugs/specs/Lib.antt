pub mod Laws
pub mod Slugs
