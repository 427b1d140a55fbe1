pub mod Pieces
pub mod RawHtml
pub mod InlineHtml
pub mod Document
pub mod Html
pub mod Layout
