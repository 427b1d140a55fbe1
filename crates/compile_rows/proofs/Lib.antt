mod Prelude
pub mod Ahead
pub mod RowParts
pub mod RowLoops
pub mod InlineRows
pub mod Walks
pub mod PassedOver
pub mod Leaves
pub mod AloneLaw
pub mod RowsLaw
pub mod Pushed
pub mod HtmlLoops
pub mod AloneRow
