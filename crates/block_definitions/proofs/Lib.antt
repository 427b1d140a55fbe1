mod Prelude
pub mod Codes
pub mod Contents
pub mod Splits
pub mod Ends
pub mod Cuts
pub mod Starts
