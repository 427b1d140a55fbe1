pub mod LawfulRows
pub mod Markers
pub mod Places
pub mod Groups
pub mod Laws
pub mod Grammar
pub mod Printed
