mod Prelude
pub mod ParagraphLaid
pub mod Lines
pub mod GfmTableLemmas
pub mod CodeFencedLemmas
pub mod RowPieces
pub mod Children
pub mod RowsOf
pub mod RowSteps
pub mod LastRow
pub mod Choose
pub mod OwnLines
pub mod ListItemLemmas
pub mod Printable
