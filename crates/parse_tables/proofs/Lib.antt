mod Prelude
pub mod Fills
pub mod Sound
pub mod Steps
pub mod CellBytes
pub mod Parts
pub mod Delimited
pub mod LineStarts
pub mod ColumnNodes
pub mod ColumnWritten
pub mod RowWritten
pub mod CellTexts
pub mod CellNodes
pub mod CellsWritten
pub mod RowsWritten
pub mod TableNodes
pub mod BodyWritten
pub mod TablesWritten
