pub mod Leads
pub mod Sound
pub mod Cells
pub mod Laws
