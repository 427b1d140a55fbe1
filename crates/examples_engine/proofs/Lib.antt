mod Given
mod Places
mod Text
mod Edits
mod Chunks
