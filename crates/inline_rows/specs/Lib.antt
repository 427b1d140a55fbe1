pub mod View
pub mod InlineRows
pub mod Container
pub mod Told
