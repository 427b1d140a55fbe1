pub mod Ascii
pub mod Somewhere
pub mod Names
