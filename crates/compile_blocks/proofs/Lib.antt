mod Prelude
pub mod TextKids
pub mod TextLaid
pub mod Found
pub mod HeadAt
pub mod GfmTableLaid
pub mod GfmTableLeft
pub mod LeafLaw
pub mod Ranks
pub mod Laid
