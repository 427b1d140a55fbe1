pub mod SafeHtml
