pub mod Command
pub mod Flags
pub mod Settings
