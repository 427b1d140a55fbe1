pub mod GfmTable
