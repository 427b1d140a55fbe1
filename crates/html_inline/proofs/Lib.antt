mod Prelude
pub mod HtmlLines
pub mod KeptText
pub mod LeafTexts
pub mod TagTexts
pub mod OpenStack
pub mod PartTexts
pub mod RowsPrinted
pub mod BarEscapes
pub mod CellRows
pub mod FootnoteCalls
pub mod Counts
pub mod Fragments
