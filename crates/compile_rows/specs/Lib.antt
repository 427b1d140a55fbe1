pub mod Ahead
pub mod Places
pub mod Leaves
pub mod Texts
pub mod Rows
pub use Rattle.compile_strings.specs.Columns
pub use Rattle.compile_strings.specs.Spelled
