pub mod Before
pub mod LineCells
pub mod Delimiters
pub mod Columns
pub mod Cells
pub mod Rows
pub mod Tables
