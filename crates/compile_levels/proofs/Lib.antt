pub mod SiblingLaw
pub mod FirstLaw
pub mod ChildLaw
pub mod Last
