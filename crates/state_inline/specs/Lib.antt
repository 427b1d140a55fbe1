pub mod Strings
pub mod Text
pub mod Inlines
pub mod InlineLaws
pub mod Reading
