pub mod Rows
pub mod Bare
pub mod Sound
pub mod Parts
pub mod Contents
pub mod Around
pub mod Texts
pub mod Nodes
