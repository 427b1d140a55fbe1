mod Prelude
pub mod Lines
mod Codes
mod Labels
mod Definitions
mod Cuts
mod Rests
mod Openings
mod Closing
mod GfmTable
mod Growing
pub mod Blocks
mod Leaves
mod Literals
mod Addresses
mod LabelEnds
mod Tokens
pub mod Contents
pub mod Matching
pub mod CutCharacters
mod GfmTaskListItem
mod Each
mod Characters
mod AlikeLiterals
pub mod Neighbours
mod Fits
mod LiteralTexts
mod Parts
mod InlineReads
mod BlockReads
mod TextLines
mod Bytes
mod Saids
mod Pieces
mod ParagraphEnds
mod GfmLabelStartFootnote
mod HeadingIds
mod GfmFootnoteDefinition
mod PrintedLeaves
mod Printed
mod PrintedTable
mod Pages
mod PrintedBlocks
mod Marks
pub mod NoFootnotes
pub mod PageLaw
pub mod Rows
pub mod CodeSymbols
