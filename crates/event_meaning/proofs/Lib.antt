pub mod Examples
pub mod Written
pub mod Steps
