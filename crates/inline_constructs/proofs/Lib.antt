mod Prelude
pub mod AutolinkLemmas
pub mod RawTextLemmas
pub mod FirstBytes
pub mod HtmlTextLemmas
pub mod RawRuns
pub mod Searching
