pub mod Before
pub mod Left
