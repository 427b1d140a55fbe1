mod Prelude
pub mod ClosingRuns
pub mod Eligible
pub mod Floors
pub mod FoundPairs
pub mod NearestOpener
pub mod Opened
pub mod Texts
pub mod Threads
pub mod Views
