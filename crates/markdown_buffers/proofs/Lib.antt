mod Listed
mod ListedLinks
mod ListedOutline
mod Pages
mod Sanitized
mod Statuses
mod Written
mod WrittenTexts
