pub mod Leading
pub mod Rests
mod Calls
