pub mod Sets
mod Lanes
mod Ends
mod After
