pub mod Prints
pub mod GfmTable
pub mod CodeLines
