-- How many lines of a text a leaf passes (CommonMark 4).
use Rattle.std.specs.Prelude.{◌≡◌, ℕ, suc, zero, ◌+◌, ◌⊎◌, if◌then◌else◌, List, [], ◌∷◌, Option, length}
use Rattle.markdown_options.specs.declared.line_ending.LineEnding.{LineEnding}
use Rattle.markdown_options.specs.declared.configuration.Constructs.{Constructs}
use Rattle.definition_block.specs.Container.{Container}
use Rattle.definition_block.specs.Tree.{LeafBlock, Paragraph, Heading, Break, IndentedCode, FencedCode, Html, Table, Definition}
use Rattle.parse_laid.specs.Places.{LineRest, Place, Between, Within, AtEnding}
use Rattle.parse_laid.specs.Leaves.{IsLeafLaid}
use Rattle.parse_laid.specs.Begun.{begun}

-- the ending of the line that is so many lines after one with this ending
abbrev pub lines_on : ℕ → Option LineEnding → List LineRest → Place
lines_on zero ending left = AtEnding ending left
lines_on (suc n) ending [] = AtEnding ending []
lines_on (suc n) ending (next ∷ left) = lines_on n next.beside.ending left

-- the same from a place within a line
abbrev pub later : ℕ → Place → Place
later n (Between left) = Between left
later n (Within here left) = lines_on n here.beside.ending left
later n (AtEnding ending left) = AtEnding ending left

-- How many lines of the text a leaf has after its first. The tree doesn't hold a heading's underline.
abbrev pub HasLater : LeafBlock → ℕ → Type 0
HasLater (Paragraph ls) n = suc n ≡ length ls
-- by `#`, or by an underline, which is one line more
HasLater (Heading rank ls) n = ((n ≡ 0) × (length ls ≡ 1)) ⊎ (n ≡ length ls)
HasLater Break n = n ≡ 0
HasLater (IndentedCode ls) n = suc n ≡ length ls
-- the first is that of the fence; and the closing fence, if there is one, is a line of its own
HasLater (FencedCode info is_closed ls) n = n ≡ length ls + (if is_closed then 1 else 0)
HasLater (Html ls) n = suc n ≡ length ls
HasLater (Table ls) n = suc n ≡ length ls
HasLater (Definition ls label destination title) n = suc n ≡ length ls

-- A leaf leads to the ending of its last line, so many lines after the one that it begins on.
pub record LeavesPassLines : Type 0 where
  pub passed : (on : Constructs) (around : List Container) (leaf : LeafBlock) (from to : Place) → IsLeafLaid on around leaf from to
      → (n : ℕ) × HasLater leaf n × (to ≡ later n (begun on around from))
