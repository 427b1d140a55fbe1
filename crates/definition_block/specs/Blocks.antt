-- The blocks of a text (CommonMark 3).
use Rattle.std.specs.Prelude.{ℕ, Bool, List, Option}
use Rattle.definition_text.specs.BlockLines.{BlockLine}
use Rattle.markdown_options.specs.declared.line_ending.LineEnding.{LineEnding}
use Rattle.definition_text.specs.Columns.{Code}
use Rattle.definition_block.specs.Container.{Container}

-- A leaf block (CommonMark 4): a paragraph; a heading of a rank; a thematic break; indented code; fenced code with its info, and whether it was closed; an
-- HTML block; a table of its lines, the head, the row of delimiters and the rows of its body; a link reference definition of its lines,
-- with its label, its destination and its title, as they are written.
pub data LeafBlock : Type 0 where
  Paragraph : List BlockLine → LeafBlock
  Heading : ℕ → List BlockLine → LeafBlock
  Break : LeafBlock
  IndentedCode : List BlockLine → LeafBlock
  FencedCode : List ℕ → Bool → List BlockLine → LeafBlock
  Html : List BlockLine → LeafBlock
  Table : List BlockLine → LeafBlock
  Definition : List BlockLine → List Code → List Code → Option (List Code) → LeafBlock

-- A child of a container: a leaf; a container with its children (CommonMark 5); a list with its items and the endings between them, which is made after the
-- lines are read (CommonMark 5.3); the ending of a block's last line; the ending of a blank line (CommonMark 4.9).
mutual
  pub data Block : Type 0 where
    Leaf : LeafBlock → Block
    Holds : Container → Blocks → Block
    Items : Blocks → Block
    Ending : Option LineEnding → Block
    Blank : Option LineEnding → Block

  pub data Blocks : Type 0 where
    Nil : Blocks
    Cons : Block → Blocks → Blocks

abbrev pub join : Blocks → Blocks → Blocks
join Nil others = others
join (Cons b bs) others = Cons b (join bs others)

abbrev pub one : Block → Blocks
one b = Cons b Nil

-- a block, and the ending of its last line
abbrev pub block_and_ending : Block → Option LineEnding → Blocks
block_and_ending b ending = Cons b (one (Ending ending))
