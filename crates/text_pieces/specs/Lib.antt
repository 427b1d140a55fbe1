pub mod Pieces
pub mod ParagraphLines
