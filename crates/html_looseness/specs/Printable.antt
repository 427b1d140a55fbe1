-- What can be printed.
use Rattle.std.specs.Prelude.{◌≡◌, ◌≤◌, true, List, [], ◌∷◌, length}
use Rattle.std.specs.List.{list_all, All}
use Rattle.definition_block.specs.Container.{Container, Quote, Item, Footnote}
use Rattle.definition_block.specs.GfmFootnoteDefinition.{is_footnote_label}
use Rattle.definition_text.specs.Columns.{is_byte}
use Rattle.text_pieces.specs.ParagraphLines.{HaveNoEnding, AreLines}
use Rattle.definition_text.specs.BlockLines.{BlockLine}
use Rattle.definition_block.specs.Tree.{LeafBlock, Paragraph, Heading, FencedCode, Table, Block, Leaf, Holds, Items, Blocks, Nil, Cons}
use Rattle.block_rows.specs.Rows.{BlockRow, Single, EnterFootnote}

-- whether a container can be printed: an item has a marker, and a footnote definition a label
abbrev pub IsPrintableContainer : Container → Type 0
IsPrintableContainer Quote = Unit {0}
IsPrintableContainer (Item item) = 1 ≤ item.marker
IsPrintableContainer (Footnote label) = is_footnote_label label ≡ true

-- the lines of a heading: an ATX heading has one, which may be empty
abbrev pub AreHeadingLines : List BlockLine → Type 0
AreHeadingLines [] = Unit {0}
AreHeadingLines (line ∷ []) = HaveNoEnding line.codes
AreHeadingLines (line ∷ next ∷ others) = AreLines (line ∷ next ∷ others)

-- no line ending stands in these lines
abbrev pub AreClear : List BlockLine → Type 0
AreClear [] = Unit {0}
AreClear (line ∷ others) = HaveNoEnding line.codes × AreClear others

-- the lines of a table: a head, a row of delimiters, and rows
abbrev pub IsTable : List BlockLine → Type 0
IsTable ls = (2 ≤ length ls) × AreClear ls

-- Whether a leaf can be printed: a paragraph has lines of a text, a heading has a rank from 1 to 6 and such lines, an info is made of bytes and has no line
-- ending, a table has such lines.
abbrev pub IsPrintableLeaf : LeafBlock → Type 0
IsPrintableLeaf (Paragraph ls) = AreLines ls
IsPrintableLeaf (Heading rank ls) = ((1 ≤ rank) × (rank ≤ 6)) × AreHeadingLines ls
IsPrintableLeaf (FencedCode info closed ls) = (list_all is_byte info ≡ true) × HaveNoEnding info
IsPrintableLeaf (Table ls) = IsTable ls
IsPrintableLeaf leaf = Unit {0}

-- whether blocks can all be printed, and so in each container; lists are made when they are printed
abbrev mutual
  pub IsPrintable : Block → Type 0
  IsPrintable (Leaf leaf) = IsPrintableLeaf leaf
  IsPrintable (Holds c kids) = IsPrintableContainer c × CanBePrinted kids
  IsPrintable (Items items) = ⊥
  IsPrintable b = Unit {0}

  pub CanBePrinted : Blocks → Type 0
  CanBePrinted Nil = Unit {0}
  CanBePrinted (Cons b bs) = IsPrintable b × CanBePrinted bs

-- the same of rows
abbrev pub IsPrintableRow : BlockRow → Type 0
IsPrintableRow (Single b) = IsPrintable b
IsPrintableRow (EnterFootnote label) = is_footnote_label label ≡ true
IsPrintableRow row = Unit {0}

abbrev pub ArePrintable : List BlockRow → Type 0
ArePrintable rows = All IsPrintableRow rows
