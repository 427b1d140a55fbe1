pub mod Pages
pub mod FootnoteLabels
