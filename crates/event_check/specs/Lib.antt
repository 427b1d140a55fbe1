pub mod Checked
pub mod Loose
pub mod Align
pub mod Matches
