pub mod Punctuation
pub mod PunctuationLaws
pub mod Builtin
pub mod RowParts
pub mod NameTexts
pub mod RowsFaults
pub mod Rows
pub mod RowsLaws
