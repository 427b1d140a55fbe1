mod White
mod Views
mod ThematicBreakLemmas
pub mod MarkLemmas
mod ContainerLemmas
pub mod PlainLemmas
mod LabelLemmas
mod HtmlEnds
mod CodeFencedLemmas
