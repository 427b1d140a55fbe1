mod Prelude
pub mod Places
pub mod Contents
pub mod Checks
