pub mod Contents
pub mod Ends
