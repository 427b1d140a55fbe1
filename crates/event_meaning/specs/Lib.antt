pub mod Children
pub mod Strings
pub mod Texts
pub mod Raw
pub mod GfmTable
pub mod Blocks
pub mod Spelled
pub mod Left
