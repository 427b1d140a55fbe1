pub mod Listed
pub mod Laws
pub mod PageLaws
