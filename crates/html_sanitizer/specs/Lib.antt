pub mod Listing
pub mod Page
pub mod Urls
pub mod Attributes
pub mod Sanitized
pub mod Elements
