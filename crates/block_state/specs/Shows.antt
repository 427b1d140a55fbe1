-- What rows show of a tree that is being read.
use Rattle.std.specs.Prelude.{◌≡◌, ℕ, Bool, true, false, List, [], ◌∷◌, ◌++◌, Option, None, length, map}
use Rattle.markdown_options.specs.declared.line_ending.LineEnding.{LineEnding}
use Rattle.definition_block.specs.Container.{Container}
use Rattle.block_rows.specs.declared.row.Row.{Row}
use Rattle.definition_block.specs.CodeFenced.{Fence}
use Rattle.definition_text.specs.BlockLines.{BlockLine, spaced_line, last_ending, last_ending_or}
use Rattle.definition_block.specs.Tree.{Blocks, Nil, Cons, front, trailing, OpenLeaf, Text, Indented, Fenced, OpenHtml, OpenTable}
use Rattle.block_rows.specs.Rows.{BlockRow, rows_of, row_value, rows_value, value_with}
use Rattle.block_state.specs.Spine.{Level, Spine, rows_around, containers_of}

-- what is kept of an open leaf beside its lines
pub data LeafState : Type 0 where
  InText : LeafState
  InIndented : ℕ → Option LineEnding → LeafState
  InFenced : Fence → Option LineEnding → LeafState
  InHtml : ℕ → Option LineEnding → LeafState
  InTable : Option LineEnding → LeafState

abbrev pub state_of : OpenLeaf → LeafState
state_of (Text ls) = InText
state_of (Indented ls pending) = InIndented (length ls) (last_ending ls)
state_of (Fenced fence opening ls) = InFenced fence (last_ending_or opening ls)
state_of (OpenHtml kind ls) = InHtml kind (last_ending ls)
state_of (OpenTable ls) = InTable (last_ending ls)

-- the lines of an open leaf; fenced code has its info as one before them
abbrev pub leaf_lines : OpenLeaf → List BlockLine
leaf_lines (Text ls) = ls
leaf_lines (Indented ls pending) = ls ++ pending
leaf_lines (Fenced fence opening ls) = spaced_line fence.info None ∷ ls
leaf_lines (OpenHtml kind ls) = ls
leaf_lines (OpenTable ls) = ls

-- a row that takes no lines
abbrev pub lone : Row → BlockRow
lone r = row_value r []

abbrev pub is_nil : Blocks → Bool
is_nil Nil = true
is_nil (Cons b bs) = false

-- the rows stand for what was read but for the endings at the end, which wait, and leave these lines
pub record AreWritten (rows waiting : List Row) (bare : Bool) (pool : List BlockLine) (around : List Level) (kids : Blocks)
    (left : List BlockLine) : Type 0 where
  pub rows_stand : rows_value rows pool ≡ value_with (rows_around around ++ rows_of (front kids)) left
  pub waiting_stand : map lone waiting ≡ rows_of (trailing kids)
  pub is_bare : bare ≡ is_nil (front kids)

-- and the lines are those of the open leaf
pub record Shows (rows waiting : List Row) (bare : Bool) (containers : List Container) (pool : List BlockLine) (state : LeafState) (s : Spine) : Type 0 where
  pub written : AreWritten rows waiting bare pool s.around s.kids (leaf_lines s.leaf)
  pub opened : containers ≡ containers_of s.around
  pub same_state : state ≡ state_of s.leaf
