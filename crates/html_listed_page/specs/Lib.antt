pub mod Tags
pub mod Rest
