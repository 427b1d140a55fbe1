pub mod Waiting
pub mod Printed
pub mod Protocols
pub mod Escapes
pub mod Inert
