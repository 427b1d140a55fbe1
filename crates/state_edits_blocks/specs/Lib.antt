pub mod HeadingAtx
pub mod HeadingSetext
pub mod ListItem
pub mod GfmTableRow
pub mod GfmTable
pub mod Content
