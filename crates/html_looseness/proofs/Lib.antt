pub mod ShownRows
pub mod Ahead
pub mod Past
pub mod Backward
pub mod BlockPlaces
pub mod ListPlaces
