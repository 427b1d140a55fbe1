pub mod Readings
pub mod Sound
pub mod Formed
pub mod Changes
pub mod Ended
pub mod LabelStarts
