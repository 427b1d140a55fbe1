mod Prelude
mod Plain
mod InlineParts
mod PlainText
pub mod VisibleText
pub mod Escaped
pub mod EscapedString
mod BeginsNothing
mod Paragraph
mod EscapedLine
pub mod EscapedPage
