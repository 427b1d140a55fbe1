mod Prelude
pub mod Laid
pub mod LeafLaid
pub mod Owed
pub mod CodeFencedLemmas
