pub mod HtmlBytes
pub mod Kept
pub mod Opens
pub mod Printed
pub mod Prints
pub mod GfmTable
pub mod Counts
pub mod Fragments
