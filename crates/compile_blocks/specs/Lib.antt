-- What the printers of leaf blocks are stated with.
pub mod Meant
pub mod Texts
pub mod Found
pub mod GfmTable
pub mod Leaf
