pub mod Words
pub mod Table
pub mod BlockTable
pub mod BlockWords
