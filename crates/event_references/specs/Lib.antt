pub mod Texts
pub mod Lost
pub mod Views
