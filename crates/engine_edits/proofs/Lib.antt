pub mod Places
pub mod Rising
pub mod Steps
pub mod Making
