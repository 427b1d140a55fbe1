pub mod Readers
pub mod Document
pub mod DocumentStates
pub mod Blocks
pub mod Views
pub mod HoldingLaws
pub mod BlocksLaws
pub mod ViewLaws
