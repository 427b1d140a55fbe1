pub mod Early
pub mod Programs
pub mod Refusals
pub mod Transfers
