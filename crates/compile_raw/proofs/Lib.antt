mod Prelude
pub mod Children
pub mod Sound
pub mod Pieces
pub mod RawLaid
pub mod RawParts
pub mod RawWalk
pub mod Endings
pub mod FencedLaid
