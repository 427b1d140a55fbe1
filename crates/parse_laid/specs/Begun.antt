-- Beginning a line before a row changes nothing.
use Rattle.std.specs.Prelude.{◌≡◌, Bool, true, false, List, [], ◌∷◌}
use Rattle.markdown_options.specs.declared.configuration.Constructs.{Constructs}
use Rattle.definition_block.specs.Container.{Container}
use Rattle.definition_block.specs.Tree.{Leaf, Holds, Items, Ending, Blank}
use Rattle.block_rows.specs.Rows.{BlockRow, Single, EnterQuote, EnterItem, EnterFootnote, Exit}
use Rattle.parse_laid.specs.Places.{Place, Between, Within, AtEnding, line_left, prefixed}
use Rattle.parse_laid.specs.Laid.{IsRowLaid}

-- A place within a line, or at its ending: where it is between lines, the next line is begun, whose prefixes are read up to the first container that doesn't go
-- on.
abbrev pub begun : Constructs → List Container → Place → Place
begun on around (Between []) = Between []
begun on around (Between (next ∷ left)) = Within (line_left (prefixed on around next)) left
begun on around (Within here left) = Within here left
begun on around (AtEnding ending left) = AtEnding ending left

-- whether a place is in a line
abbrev pub is_in_line : Place → Bool
is_in_line (Between left) = false
is_in_line (Within here left) = true
is_in_line (AtEnding ending left) = true

-- whether a row is the ending of a block's last line
abbrev pub ends_line : BlockRow → Bool
ends_line (Single (Ending ending)) = true
ends_line (Single (Blank ending)) = false
ends_line (Single (Leaf leaf)) = false
ends_line (Single (Holds c kids)) = false
ends_line (Single (Items items)) = false
ends_line EnterQuote = false
ends_line (EnterItem marker number) = false
ends_line (EnterFootnote label) = false
ends_line Exit = false

-- A row that isn't such an ending leads to the same place if its line is begun before it, and there is a line to begin. For such an ending the line is begun.
pub record LinesMayBeBegun : Type 0 where
  pub others : (on : Constructs) (around inner : List Container) (row : BlockRow) (from to : Place) → ends_line row ≡ false
      → IsRowLaid on around row from inner to → IsRowLaid on around row (begun on around from) inner to
  pub in_line : (on : Constructs) (around inner : List Container) (row : BlockRow) (from to : Place)
      → IsRowLaid on around row from inner to → is_in_line (begun on around from) ≡ true
  pub endings : (on : Constructs) (around inner : List Container) (row : BlockRow) (from to : Place) → ends_line row ≡ true
      → IsRowLaid on around row from inner to → is_in_line from ≡ true
