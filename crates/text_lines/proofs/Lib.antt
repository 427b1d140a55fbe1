pub mod Ascii
pub mod FirstLine
pub mod MarkBytes
pub mod Codes
