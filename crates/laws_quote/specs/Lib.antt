pub mod Quoted
pub mod Laws
pub mod Squeeze
pub mod PageLaws
pub mod Refused
