pub mod Marks
pub mod View
pub mod Endings
pub mod Lines
pub mod Buffers
pub mod Ends
pub mod Fronts
