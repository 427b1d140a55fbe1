mod Each
mod Lacks
mod NestedLiterals
pub mod Occurs
pub mod Strings
pub mod Pairs
pub mod Emphasis
pub mod NestedLinks
pub mod Matching
pub mod References
pub mod LabelPairs
