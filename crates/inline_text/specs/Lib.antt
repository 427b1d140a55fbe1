pub mod Letters
pub mod Mark
pub mod Plain
pub mod Verbatim
pub mod Fronts
