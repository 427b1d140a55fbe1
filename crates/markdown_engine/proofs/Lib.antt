mod Prelude
pub mod Tests
pub mod Outcomes
pub mod Starts
pub mod Push
pub mod Order
pub mod Falls
pub mod Resolves
pub mod ResolverLaws
pub mod ChainLaws
pub mod ChainSteps
pub mod Total
pub mod Halts
pub mod Ranges
pub mod Evaluation
pub mod Turns
pub mod Computing
pub mod Weaving
