mod Same
mod Rows
mod Fronts
pub mod Whole
