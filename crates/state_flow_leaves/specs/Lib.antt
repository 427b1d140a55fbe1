pub mod BlankLine
pub mod NonLazyContinuation
pub mod ThematicBreak
pub mod HeadingAtx
pub mod CodeIndented
pub mod RawFlow
pub mod LeavesStates
