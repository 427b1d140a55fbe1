mod SmallTables
mod Containers
mod Leaves
mod MathFlow
mod GfmTable
mod Frontmatter
mod GfmFootnoteDefinition
mod HeadingIds
