pub mod CodeBytes
pub mod Forms
pub mod HeadingLines
pub mod HeadingRows
