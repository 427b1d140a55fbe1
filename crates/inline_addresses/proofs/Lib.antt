mod Prelude
mod Leaves
mod Rows
mod Unlinked
mod Walks
mod AtSigns
mod LineEnding
