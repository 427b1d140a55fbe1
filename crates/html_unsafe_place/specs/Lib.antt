pub mod What
pub mod Place
