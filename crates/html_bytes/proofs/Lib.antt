pub mod CalledFootnotes
pub mod LayoutSteps
pub mod Printed
pub mod SameLayout
pub mod SameText
pub mod SameBlocks
pub mod SamePage
pub mod WithoutCalls
