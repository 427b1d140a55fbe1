-- What the printers of raw blocks are stated with.
pub mod Sound
pub mod Endings
pub mod Raw
