pub mod Constructs
pub mod Flags
pub mod FlatOptions
pub mod Switches
