pub mod Checks
pub mod CheckViews
pub mod Faults
pub mod Spaces
