pub mod Attention
pub mod Views
