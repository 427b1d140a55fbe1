mod Prelude
pub mod Frames
pub mod Going
pub mod Reading
pub mod SameList
pub mod Entering
pub mod Tree
pub mod Checked
pub mod ItemNumbers
pub mod Endings
