pub mod Facts
pub mod TextReads
pub mod BlockReads
pub mod SafeHtml
