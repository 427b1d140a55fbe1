pub mod Begun
pub mod ListedHeadings
pub mod OutlineSlugs
pub mod PageOrder
pub mod StoredParts
