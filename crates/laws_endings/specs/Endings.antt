-- A text with another line ending in place of each LF, and what is made of it (CommonMark 2.1).
use Rattle.std.specs.Prelude.{ℕ, if◌then◌else◌, ◌==◌, List, [], ◌∷◌, Option, map}
use Rattle.std.specs.List.{flat_map}
use Rattle.std.specs.Option.{option_map}
use Rattle.markdown_options.specs.declared.line_ending.LineEnding.{LineEnding}
use Rattle.markdown_options.specs.declared.line_ending.LineEnding.TheVariants.{CarriageReturnLineFeed, CarriageReturn, LineFeed}
use Rattle.markdown_options.specs.LineEndings.{ending_bytes}
use Rattle.definition_text.specs.Ascii.{line_feed}
use Rattle.definition_text.specs.Lines.{TextLine, text_line}
use Rattle.definition_text.specs.BlockLines.{BlockLine, block_line}
use Rattle.definition_text.specs.Content.{line_ending_code}
use Rattle.definition_inline.specs.Definition.{Definition as LinkDefinition, definition}
use Rattle.definition_block.specs.Blocks.{LeafBlock, Paragraph, Heading, Break, IndentedCode, FencedCode, Html, Table, Definition}
use Rattle.definition_block.specs.Blocks.{Block, Leaf, Holds, Items, Ending, Blank, Blocks, Nil, Cons}

-- the bytes of an ending for an LF, any other byte as it is
abbrev pub byte_with : LineEnding → ℕ → List ℕ
byte_with e b = if b == line_feed then ending_bytes e else b ∷ []

-- a text with this ending in place of each LF
abbrev pub with_ending : LineEnding → List ℕ → List ℕ
with_ending e text = flat_map (byte_with e) text

-- an ending, or this one in place of LF
abbrev pub ending_with : LineEnding → LineEnding → LineEnding
ending_with e LineFeed = e
ending_with e CarriageReturn = CarriageReturn
ending_with e CarriageReturnLineFeed = CarriageReturnLineFeed

-- the same where there may be none
abbrev pub if_ending_with : LineEnding → Option LineEnding → Option LineEnding
if_ending_with e ending = option_map (ending_with e) ending

-- a line of a text with this ending in place of LF
abbrev pub text_line_with : LineEnding → TextLine → TextLine
text_line_with e line = text_line line.content (if_ending_with e line.ending)

-- ---- blocks

-- the code of this ending in place of that of LF
abbrev pub code_with : LineEnding → ℕ → ℕ
code_with e code = if code == line_feed then line_ending_code e else code

-- codes with that of this ending in place of each of LF
abbrev pub codes_with : LineEnding → List ℕ → List ℕ
codes_with e content = map (code_with e) content

-- a line of a block
abbrev pub line_with : LineEnding → BlockLine → BlockLine
line_with e line = block_line (codes_with e line.codes) (if_ending_with e line.ending) line.before

abbrev pub lines_with : LineEnding → List BlockLine → List BlockLine
lines_with e ls = map (line_with e) ls

-- a link reference definition
abbrev pub definition_with : LineEnding → LinkDefinition → LinkDefinition
definition_with e d = definition (codes_with e d.label) (codes_with e d.destination) (option_map (codes_with e) d.title) (codes_with e d.rest)

-- a leaf with this ending in place of each LF of its lines and its contents
abbrev pub leaf_block_with : LineEnding → LeafBlock → LeafBlock
leaf_block_with e (Paragraph ls) = Paragraph (lines_with e ls)
leaf_block_with e (Heading rank ls) = Heading rank (lines_with e ls)
leaf_block_with e Break = Break
leaf_block_with e (IndentedCode ls) = IndentedCode (lines_with e ls)
leaf_block_with e (FencedCode info closed ls) = FencedCode info closed (lines_with e ls)
leaf_block_with e (Html ls) = Html (lines_with e ls)
leaf_block_with e (Table ls) = Table (lines_with e ls)
leaf_block_with e (Definition ls label destination title) =
    Definition (lines_with e ls) (codes_with e label) (codes_with e destination) (option_map (codes_with e) title)

abbrev mutual
  -- a block with this ending in place of each LF of it, at any depth
  pub block_with : LineEnding → Block → Block
  block_with e (Leaf leaf) = Leaf (leaf_block_with e leaf)
  block_with e (Holds c kids) = Holds c (blocks_with e kids)
  block_with e (Items items) = Items (blocks_with e items)
  block_with e (Ending ending) = Ending (if_ending_with e ending)
  block_with e (Blank ending) = Blank (if_ending_with e ending)

  pub blocks_with : LineEnding → Blocks → Blocks
  blocks_with e Nil = Nil
  blocks_with e (Cons b bs) = Cons (block_with e b) (blocks_with e bs)
