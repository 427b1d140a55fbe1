pub mod View
pub mod HeadingSetext
pub mod GfmTable
pub mod Fences
