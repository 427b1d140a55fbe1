mod Prelude
pub mod Goes
pub mod Views
pub mod Follow
pub mod Whole
pub mod Placed
pub mod PlainText
