-- On which lines of a text its blocks stand (CommonMark 3).
use Rattle.std.specs.Prelude.{◌≡◌, ℕ, suc, ◌+◌, ◌-◌, ◌≤◌, ◌<◌, ◌⊎◌, true, false, if◌then◌else◌, leb, List, Option, None, Some, length, get_or}
use Rattle.markdown_options.specs.declared.configuration.Constructs.{Constructs}
use Rattle.markdown_options.specs.declared.beside.Kind.{Kind}
use Rattle.definition_text.specs.BlockLines.{BlockLine}
use Rattle.definition_text.specs.Lines.{TextLine, lines}
use Rattle.definition_block.specs.Frontmatter.{after_frontmatter}
use Rattle.definition_block.specs.Tree.{LeafBlock, Paragraph, Heading, Break, IndentedCode, FencedCode, Html, Table, Definition, Block, Leaf, Holds, Items}
use Rattle.definition_block.specs.Tree.{Ending, Blank, Blocks, Nil, Cons, blocks}
use Rattle.definition_block.specs.Lists.{group_items}

-- a heading by `#` stands on one line, which is its content (CommonMark 4.2)
abbrev pub IsAtxOn : Constructs → ℕ → List BlockLine → ℕ → ℕ → Type 0
IsAtxOn on rank ls first last = (on.heading_atx ≡ true) × (leb rank 6 ≡ true) × (length ls ≡ 1) × (last ≡ first)

-- a heading by an underline stands on one line or more of content, and on the line of the underline (CommonMark 4.3)
abbrev pub IsSetextOn : Constructs → ℕ → List BlockLine → ℕ → ℕ → Type 0
IsSetextOn on rank ls first last = (on.heading_setext ≡ true) × (leb rank 2 ≡ true) × (1 ≤ length ls) × (last ≡ first + length ls)

-- The lines of a leaf: its first line is the one of the first number, and its last line the one of the second. The tree doesn't hold a heading's underline.
-- A definition may have any number of lines here.
abbrev pub IsLeafOn : Constructs → LeafBlock → ℕ → ℕ → Type 0
IsLeafOn on (Paragraph ls) first last = last ≡ first + (length ls - 1)
IsLeafOn on (Heading rank ls) first last = IsAtxOn on rank ls first last ⊎ IsSetextOn on rank ls first last
IsLeafOn on Break first last = last ≡ first
IsLeafOn on (IndentedCode ls) first last = last ≡ first + (length ls - 1)
-- after the line of the fence; and the closing fence, if there is one, is a line of its own
IsLeafOn on (FencedCode info is_closed ls) first last = last ≡ first + (length ls + (if is_closed then 1 else 0))
IsLeafOn on (Html ls) first last = last ≡ first + (length ls - 1)
IsLeafOn on (Table ls) first last = last ≡ first + (length ls - 1)
IsLeafOn on (Definition ls label destination title) first last = first ≤ last

-- The lines of a block, by the numbers of its first and its last line. An ending leads from the line that it ends to the next one.
abbrev mutual
  pub IsOn : Constructs → Block → ℕ → ℕ → Type 0
  IsOn on (Leaf leaf) first last = IsLeafOn on leaf first last
  IsOn on (Holds c kids) first last = AreOn on kids first last
  IsOn on (Items items) first last = AreOn on items first last
  IsOn on (Ending ending) first next = next ≡ suc first
  IsOn on (Blank ending) first next = next ≡ suc first

  -- children one after another: each begins on the line that the one before it ends on, or that an ending leads to
  pub AreOn : Constructs → Blocks → ℕ → ℕ → Type 0
  AreOn on Nil first last = first ≡ last
  AreOn on (Cons b bs) first last = (here : ℕ) × IsOn on b first here × AreOn on bs here last

-- the lines of a text that are read to blocks: all, or those after its frontmatter
abbrev pub lines_after : List TextLine → Option (List TextLine) → List TextLine
lines_after all None = all
lines_after all (Some others) = others

abbrev pub lines_read : Constructs → List ℕ → List TextLine
lines_read on text = lines_after (lines text) (after_frontmatter on (lines text))

-- The blocks of a text of bytes, items put into lists, stand on the lines of the text: line by line, from the first one after its frontmatter to the end.
abbrev pub BlocksAreOnLines : Type 0
BlocksAreOnLines =
    (on : Constructs) (before : Kind) (text : List ℕ) → ((k : ℕ) → get_or text k 0 < 256)
    → AreOn on (group_items (blocks on before text)) (length (lines text) - length (lines_read on text)) (length (lines text))

-- where ATX headings are off, a heading has the lines of its content and that of an underline; where setext headings are off, it has one line
pub record HeadingsAreOfLines : Type 0 where
  pub without_atx : (on : Constructs) (rank : ℕ) (ls : List BlockLine) (first last : ℕ) → on.heading_atx ≡ false
      → IsLeafOn on (Heading rank ls) first last → IsSetextOn on rank ls first last
  pub without_setext : (on : Constructs) (rank : ℕ) (ls : List BlockLine) (first last : ℕ) → on.heading_setext ≡ false
      → IsLeafOn on (Heading rank ls) first last → IsAtxOn on rank ls first last
