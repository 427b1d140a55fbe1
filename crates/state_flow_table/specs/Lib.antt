pub mod HeadingSetext
pub mod GfmTable
pub mod TableStates
pub mod Cells
