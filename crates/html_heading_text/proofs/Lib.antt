pub mod FormedText
pub mod InLine
pub mod Numbers
pub mod HeadingTexts
