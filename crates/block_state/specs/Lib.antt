pub mod Waits
pub mod Spine
pub mod Shows
pub mod Leaves
pub mod WholeLines
