pub mod Visible
pub mod Escaped
pub mod EscapedPage
