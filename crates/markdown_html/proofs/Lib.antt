pub mod SamePage
