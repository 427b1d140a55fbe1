pub mod Printing
pub mod GfmTable
pub mod Headings
