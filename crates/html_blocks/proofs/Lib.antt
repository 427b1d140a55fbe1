mod Prelude
mod HeadingLines
