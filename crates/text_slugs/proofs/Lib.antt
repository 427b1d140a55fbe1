mod Differ
mod Lowered
pub mod Numbers
mod Taken
