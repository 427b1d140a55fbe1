-- The rows of a block tree: what the block parser hands to the printer.
use Rattle.std.specs.Prelude.{ℕ, ◌+◌, true, false, Option, None, Some, List, [], ◌∷◌, ◌++◌, map, take, drop}
use Rattle.std.specs.List.{fold, sum_by}
use Rattle.std.specs.Option.{option_map}
use Rattle.definition_block.specs.Container.{Container, Quote, Item, Footnote}
use Rattle.block_rows.specs.declared.row.Row.{Row}
use Rattle.block_rows.specs.declared.row.Row.TheVariants as row
use Rattle.definition_text.specs.Columns.{bytes_of, code_byte}
use Rattle.definition_text.specs.BlockLines.{BlockLine, own_lines}
use Rattle.text_pieces.specs.Pieces.{whole_lines}
use Rattle.definition_block.specs.Tree.{LeafBlock, Paragraph, Heading, Break, IndentedCode, FencedCode, Html, Table, Definition}
use Rattle.definition_block.specs.Tree.{Block, Leaf, Holds, Items, Ending, Blank, Blocks, Nil, Cons}
use Rattle.definition_text.specs.Content.{content_codes, content_text}
use Rattle.definition_block.specs.Definitions.{block_definitions}
use Rattle.definition_inline.specs.Definition.{Definition as LinkDefinition, definition_at}

-- a block that holds no other, or an ending; the start of a quote; the start of an item, with the byte of its marker and its number; the start of a footnote
-- definition, with its label; the end of the innermost container
pub data BlockRow : Type 0 where
  Single : Block → BlockRow
  EnterQuote : BlockRow
  EnterItem : ℕ → Option ℕ → BlockRow
  EnterFootnote : List ℕ → BlockRow
  Exit : BlockRow

abbrev pub start_row : Container → BlockRow
start_row Quote = EnterQuote
start_row (Item item) = EnterItem item.marker item.number
start_row (Footnote label) = EnterFootnote label

-- a leaf whose columns that are left of a tab are spaces, where it is a definition
abbrev pub spaced_leaf : LeafBlock → LeafBlock
spaced_leaf (Definition ls label destination title) = Definition ls (map code_byte label) (map code_byte destination) (option_map (map code_byte) title)
spaced_leaf leaf = leaf

-- the rows of blocks, before their items are put into lists
abbrev mutual
  pub block_rows : Block → List BlockRow
  block_rows (Leaf leaf) = Single (Leaf (spaced_leaf leaf)) ∷ []
  block_rows (Holds c kids) = start_row c ∷ (rows_of kids ++ Exit ∷ [])
  block_rows (Items items) = rows_of items
  block_rows (Ending ending) = Single (Ending ending) ∷ []
  block_rows (Blank ending) = Single (Blank ending) ∷ []

  pub rows_of : Blocks → List BlockRow
  rows_of Nil = []
  rows_of (Cons b bs) = block_rows b ++ rows_of bs

-- the definition that a row stands for, if it is one
abbrev pub row_definitions : BlockRow → List LinkDefinition
row_definitions (Single b) = block_definitions b
row_definitions EnterQuote = []
row_definitions (EnterItem marker number) = []
row_definitions (EnterFootnote label) = []
row_definitions Exit = []

-- rows, and the lines that they leave
pub record RowsValue : Type 0 where
  pub rows : List BlockRow
  pub left : List BlockLine

abbrev pub value_with : List BlockRow → List BlockLine → RowsValue
value_with rows left = record { rows = rows; left = left }

-- how many lines a row takes: fenced code takes its info as one before its lines
abbrev pub row_size : Row → ℕ
row_size (row.Paragraph count) = count
row_size row.WholeParagraph = 1
row_size (row.Heading rank) = 1
row_size (row.SetextHeading rank count) = count
row_size row.Break = 0
row_size (row.IndentedCode count) = count
row_size (row.FencedCode count) = 1 + count
row_size (row.UnclosedCode count) = 1 + count
row_size row.WholeCode = 2
row_size (row.Html count) = count
row_size (row.Table count) = count
row_size (row.Definition count) = count
row_size row.EnterQuote = 0
row_size (row.EnterItem marker number) = 0
row_size row.EnterFootnote = 1
row_size row.Exit = 0
row_size (row.Ending ending) = 0
row_size (row.Blank ending) = 0

abbrev pub rows_size : List Row → ℕ
rows_size rows = sum_by row_size rows

-- the codes of the first line
abbrev pub first_codes : List BlockLine → List ℕ
first_codes [] = []
first_codes (line ∷ others) = line.codes

-- the definition that is read off the bytes of these lines
abbrev pub definition_on : List BlockLine → Option LinkDefinition
definition_on ls = definition_at (content_codes (content_text ls))

abbrev pub definition_value : List BlockLine → Option LinkDefinition → Block
definition_value ls None = Leaf (Definition ls [] [] None)
definition_value ls (Some d) = Leaf (Definition ls d.label d.destination d.title)

-- what a row stands for: it takes its lines from the front of those that are left
abbrev pub row_value : Row → List BlockLine → BlockRow
row_value (row.Paragraph count) left = Single (Leaf (Paragraph (own_lines (take count left))))
row_value row.WholeParagraph left = Single (Leaf (Paragraph (own_lines (whole_lines (bytes_of (first_codes left))))))
row_value (row.Heading rank) left = Single (Leaf (Heading rank (own_lines (take 1 left))))
row_value (row.SetextHeading rank count) left = Single (Leaf (Heading rank (own_lines (take count left))))
row_value row.Break left = Single (Leaf Break)
row_value (row.IndentedCode count) left = Single (Leaf (IndentedCode (own_lines (take count left))))
row_value (row.FencedCode count) left = Single (Leaf (FencedCode (first_codes left) true (take count (drop 1 left))))
row_value (row.UnclosedCode count) left = Single (Leaf (FencedCode (first_codes left) false (take count (drop 1 left))))
row_value row.WholeCode left = Single (Leaf (FencedCode (first_codes left) true (whole_lines (bytes_of (first_codes (drop 1 left))))))
row_value (row.Html count) left = Single (Leaf (Html (own_lines (take count left))))
row_value (row.Table count) left = Single (Leaf (Table (own_lines (take count left))))
row_value (row.Definition count) left = Single (definition_value (own_lines (take count left)) (definition_on (take count left)))
row_value row.EnterQuote left = EnterQuote
row_value (row.EnterItem marker number) left = EnterItem marker number
row_value row.EnterFootnote left = EnterFootnote (first_codes left)
row_value row.Exit left = Exit
row_value (row.Ending ending) left = Single (Ending ending)
row_value (row.Blank ending) left = Single (Blank ending)

abbrev pub show_row : RowsValue → Row → RowsValue
show_row s r = value_with (s.rows ++ row_value r s.left ∷ []) (drop (row_size r) s.left)

abbrev pub rows_value : List Row → List BlockLine → RowsValue
rows_value rows ls = fold show_row (value_with [] ls) rows
