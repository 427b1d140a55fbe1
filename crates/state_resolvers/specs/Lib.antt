pub mod Whole
pub mod WholeLaws
pub mod EditedEvents
pub mod Resolving
pub mod ChainLaws
pub mod ResolvingLaws
