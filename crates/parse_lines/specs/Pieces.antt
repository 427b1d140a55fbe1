-- Which pieces of the definition a walk writes between two lines (CommonMark 2.1 and 5).
use Rattle.std.specs.Prelude.{◌≡◌, ℕ, [], ◌∷◌, List, Option, Some, false}
use Rattle.engine_events.specs.declared.event.Name.TheVariants.{LineEnding as Ending}
use Rattle.markdown_options.specs.declared.beside.Kind.{Kind}
use Rattle.markdown_options.specs.declared.line_ending.LineEnding.{LineEnding}
use Rattle.definition_text.specs.Columns.{Rest}
use Rattle.definition_text.specs.Lines.{lines}
use Rattle.definition_block.specs.Container.{Container}
use Rattle.definition_block.specs.ContainerLine.{container_line}
use Rattle.definition_block.specs.Containers.{continues}
use Rattle.block_starts.specs.View.{rest_of}
use Rattle.event_definition.specs.Containers.{begun, next_line, prefix_pieces, prefixed}
use Rattle.event_definition.specs.Written.{Left, Between, Within, Written}
use Rattle.parse_laid.specs.Places.{LineRest}
use Rattle.parse_laid.specs.Places as place
use Rattle.parse_output.specs.Ends.{end_at}
use Rattle.parse_output.specs.Voids.{IsToken}
use Rattle.parse_output.specs.Written.{IsInOrder}
use Rattle.parse_pieces.specs.Written.{WritesPieces}
use Rattle.parse_lines.specs.declared.walk.Walk.{Walk}
use Rattle.parse_lines.specs.Ends.{IsAfter, IsWrittenToLine, line_after, written_to}
use Rattle.parse_lines.specs.Standing.{AreQuotesWithin, Standing, StandsAt, standing}

-- ---- what is left of the text, as the definition has it

-- between two lines
abbrev pub left_between : Standing → Left
left_between s = Between (lines s.left)

-- within a line
abbrev pub left_in_line : Standing → Left
left_in_line s = Within s.rest s.ending (lines s.left)

-- at the ending of a line
abbrev pub left_at_ending : Standing → Left
left_at_ending s = Within [] s.ending (lines s.left)

-- ---- what is written

-- the prefix of a container that goes on, up to a rest of the line
abbrev pub WritesPrefixPieces : {A : Type 0} → Container → Rest → Walk A → Walk A → Type 0
WritesPrefixPieces c rest old new =
    (text before content after : List ℕ) (n : ℕ) (kind : Kind) → IsAfter text before content after n old
    → continues old.on.now c false (rest_of old.rest) ≡ Some (container_line rest kind)
    → WritesPieces text (prefix_pieces c (rest_of old.rest) rest) old.out new.out

-- the prefixes of the open containers, up to the first that doesn't go on
abbrev pub WritesPrefixesPieces : {A : Type 0} → Walk A → Walk A → Type 0
WritesPrefixesPieces old new =
    (text before content after : List ℕ) (n : ℕ) → IsAfter text before content after n old
    → AreQuotesWithin old.quotes_end (standing old).outermost
    → ((prefixed old.on.now (standing old).outermost (rest_of old.rest)).rest ≡ rest_of new.rest)
    × WritesPieces text (prefixed old.on.now (standing old).outermost (rest_of old.rest)).pieces old.out new.out

-- pieces, up to what is left then within a line
pub record WritesUpToLine {A : Type 0} (text : List ℕ) (w : Written) (old new : Walk A) : Type 0 where
  pub pieces : WritesPieces text w.pieces old.out new.out
  pub left : left_in_line (standing new) ≡ w.left

-- from between two lines into the second
abbrev pub WritesBegun : {A : Type 0} → Walk A → Walk A → Type 0
WritesBegun old new =
    (text : List ℕ) (next : LineRest) (others : List LineRest) → StandsAt text (place.Between (next ∷ others)) (standing old) → IsWrittenToLine old
    → IsInOrder text old.out → WritesUpToLine text (begun old.on.now (standing old).outermost (left_between (standing old))) old new

-- from the ending of a line into the next one
abbrev pub WritesNextBegun : {A : Type 0} → Walk A → Walk A → Type 0
WritesNextBegun old new =
    (text : List ℕ) (ending : Option LineEnding) (next : LineRest) (others : List LineRest)
    → StandsAt text (place.AtEnding ending (next ∷ others)) (standing old) → written_to old ≡ end_at old.line_end 0 → IsInOrder text old.out
    → IsToken text Ending (written_to old) (line_after old)
    → WritesUpToLine text (next_line old.on.now (standing old).outermost (left_at_ending (standing old))) old new
