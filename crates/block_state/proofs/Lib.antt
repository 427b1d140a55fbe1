pub mod Trees
pub mod Ends
pub mod Shown
pub mod Written
pub mod WholeLines
