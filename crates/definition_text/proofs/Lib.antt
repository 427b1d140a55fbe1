pub mod ContentBytes
pub mod CodeBytes
pub mod Each
