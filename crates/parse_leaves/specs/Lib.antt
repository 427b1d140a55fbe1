pub mod Texts
pub mod Entered
pub mod Headings
pub mod Definition
pub mod Rows
pub mod Atx
