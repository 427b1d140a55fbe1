mod Prelude
pub mod Views
pub mod Characters
pub mod Marked
pub mod Places
pub mod Runs
pub mod Lined
pub mod WholeLines
pub mod Utf8Bytes
pub mod PreviousCodes
