pub mod Mdx
pub mod Defaults
pub mod RawHtml
