pub mod Occurs
pub mod Pairs
pub mod Emphasis
pub mod NestedLinks
pub mod Matching
pub mod References
pub mod LabelPairs
