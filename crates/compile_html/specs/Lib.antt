pub mod Opened
pub mod Views
pub mod Containers
pub mod Numbers
pub mod Frames
pub mod Going
