pub mod Leaves
pub mod HtmlText
pub mod Searched
pub mod RawRuns
