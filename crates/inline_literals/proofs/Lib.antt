pub mod Addresses
pub mod Ascii
pub mod Names
pub mod Tails
pub mod Domains
pub mod Starts
pub mod Found
pub mod InVain
