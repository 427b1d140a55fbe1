pub mod Floors
pub mod FoundPairs
pub mod Laid
pub mod Paired
pub mod Threads
pub mod View
