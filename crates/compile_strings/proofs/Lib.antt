mod Prelude
pub mod ColumnsLaw
pub mod RawLoops
pub mod WholeLaw
pub mod PassLaw
pub mod Passes
pub mod TargetLaw
pub mod HeldLaw
pub mod JoinedLaw
pub mod SpelledLaw
pub mod ValidTexts
