pub mod OwnLines
pub mod Pieces
pub mod InLine
