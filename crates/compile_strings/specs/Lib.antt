pub mod Columns
pub mod RawTexts
pub mod Targets
pub mod LabelEnd
pub mod Spelled
pub mod Joined
