pub mod Constructs
pub mod Front
pub mod Calls
pub mod Hidden
pub mod SameDocument
pub mod Known
