pub mod Shows
pub mod LabelStarts
