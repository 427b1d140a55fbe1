pub mod Laws
pub mod Listed
pub mod PageHeadings
pub mod Rank
