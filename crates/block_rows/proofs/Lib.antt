pub mod DefinitionLines
pub mod OpenLines
pub mod RowSteps
pub mod DefinitionRows
pub mod TextLines
