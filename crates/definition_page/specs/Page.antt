-- A page: the blocks of a document with their inline structure, as it is printed.
use Rattle.std.specs.Prelude.{ℕ, Bool, List, Option, None, Some}
use Rattle.markdown_options.specs.declared.line_ending.LineEnding.{LineEnding}
use Rattle.definition_text.specs.Columns.{Code}
use Rattle.definition_text.specs.BlockLines.{BlockLine}
use Rattle.definition_inline.specs.Definition as link
use Rattle.definition_inline.specs.Inline.{Inlines}
use Rattle.definition_page.specs.GfmTable as table

-- A leaf of a page: a paragraph; a heading of a rank; a thematic break; indented code; fenced code with the text of its info, if it has one, and whether it was
-- closed; an HTML block; a table; a link reference definition.
pub data PageLeaf : Type 0 where
  Paragraph : Inlines → PageLeaf
  Heading : ℕ → Inlines → PageLeaf
  Break : PageLeaf
  IndentedCode : List BlockLine → PageLeaf
  FencedCode : Option (List ℕ) → Bool → List BlockLine → PageLeaf
  Html : List BlockLine → PageLeaf
  Table : table.Table → PageLeaf
  Definition : PageLeaf

-- what holds other blocks: a block quote; a list item; a footnote definition with its label, as it is written
pub data PageContainer : Type 0 where
  Quote : PageContainer
  Item : PageContainer
  Footnote : List Code → PageContainer

-- A block, or the ending of a line between blocks: a leaf; a container with its children; a list with the number of its first item, if it is ordered, whether it
-- is loose, and its items; the ending of a block's last line; the ending of a blank line.
mutual
  pub data Block : Type 0 where
    Leaf : PageLeaf → Block
    Holds : PageContainer → Blocks → Block
    ItemList : Option ℕ → Bool → Blocks → Block
    Ending : LineEnding → Block
    Blank : LineEnding → Block

  pub data Blocks : Type 0 where
    Nil : Blocks
    Cons : Block → Blocks → Blocks

-- the blocks of a document, its link reference definitions in the order of the text, repeats kept, the labels of its footnote definitions in the order in which
-- these end, and whether the text's very last child is the ending of a blank line
pub record Page : Type 0 where
  pub blocks : Blocks
  pub definitions : List link.Definition
  pub footnotes : List (List Code)
  pub ends_blank : Bool

-- an ending before these blocks, if there is one
abbrev pub cons_ending : Option LineEnding → Blocks → Blocks
cons_ending None bs = bs
cons_ending (Some ending) bs = Cons (Ending ending) bs

-- the same for that of a blank line
abbrev pub cons_blank : Option LineEnding → Blocks → Blocks
cons_blank None bs = bs
cons_blank (Some ending) bs = Cons (Blank ending) bs
