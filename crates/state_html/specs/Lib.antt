pub mod Autolink
pub mod HtmlText
pub mod HtmlStates
