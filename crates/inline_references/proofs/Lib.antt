pub mod Marked
pub mod Values
pub mod Decoding
pub mod Table
pub mod Written
pub mod Alone
