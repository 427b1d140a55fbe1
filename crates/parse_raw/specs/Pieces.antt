-- Which pieces of the definition are written of raw blocks (CommonMark 4.1 and 4.4 to 4.6).
use Rattle.std.specs.Prelude.{◌≡◌, ℕ, suc, zero, Bool, List, length}
use Rattle.markdown_options.specs.declared.configuration.Constructs.{Constructs}
use Rattle.markdown_options.specs.declared.line_ending.LineEnding.{LineEnding}
use Rattle.std.specs.Prelude.{Option}
use Rattle.engine_events.specs.declared.event.Name.{Name}
use Rattle.definition_text.specs.BlockLines.{BlockLine}
use Rattle.definition_text.specs.Columns.{Rest}
use Rattle.definition_block.specs.Container.{Container}
use Rattle.definition_block.specs.Tree.{LeafBlock}
use Rattle.definition_page.specs.Read.{Reading}
use Rattle.event_definition.specs.Blocks.{blank_written}
use Rattle.event_definition.specs.Containers.{next_line}
use Rattle.event_definition.specs.Leaves.{leaf_written}
use Rattle.event_definition.specs.Pieces.{Nil}
use Rattle.event_definition.specs.Written.{Left, Written, and_then, written}
use Rattle.parse_laid.specs.Laid.{IsBlankLaid}
use Rattle.parse_laid.specs.Leaves.{AreTaken, IsLeafLaid}
use Rattle.parse_laid.specs.Places.{AtEnding, Between, LineRest, Place, Within}
use Rattle.parse_output.specs.Ends.{end_at}
use Rattle.parse_output.specs.Written.{IsInOrder}
use Rattle.parse_pieces.specs.Written.{WritesPieces}
use Rattle.parse_lines.specs.declared.walk.Walk.{Walk}
use Rattle.parse_lines.specs.Ends.{IsWrittenToRest, written_to}
use Rattle.parse_lines.specs.Pieces.{left_at_ending, left_between, left_in_line}
use Rattle.parse_lines.specs.Standing.{StandsAt, around, standing}
use Rattle.parse_raw.specs.RawLines.{IsChunkName, IsCutLine, cut_line}

-- the ending of a line, and one more of these
abbrev pub next_cut : Constructs → List Container → Name → (Rest → Rest) → Left → Written
next_cut on outer name cut left = and_then (next_line on outer left) (cut_line name cut)

-- so many of them
abbrev pub cut_lines : Constructs → List Container → Name → (Rest → Rest) → ℕ → Left → Written
cut_lines on outer name cut zero left = written Nil left
cut_lines on outer name cut (suc count) left = and_then (next_cut on outer name cut left) (cut_lines on outer name cut count)

-- exactly this is written, up to the ending of a line
pub record WritesToEnding {A : Type 0} (text : List ℕ) (w : Written) (old new : Walk A) : Type 0 where
  pub pieces : WritesPieces text w.pieces old.out new.out
  pub left : left_at_ending (standing new) ≡ w.left

-- From a walk at the ending of a line, exactly so many lines are written.
abbrev pub WritesCutPieces : {A : Type 0} → Name → (Rest → Rest) → ℕ → Walk A → Walk A → Type 0
WritesCutPieces name cut count old new =
    (text : List ℕ) (first : Option LineEnding) (ls : List BlockLine) (left after : List LineRest) → count ≡ length ls → IsChunkName name
    → StandsAt text (AtEnding first left) (standing old) → written_to old ≡ end_at old.line_end 0 → IsInOrder text old.out
    → AreTaken old.on.now (around (standing old)) (IsCutLine cut) ls (Between left) (Between after)
    → WritesToEnding text (cut_lines old.on.now (standing old).outermost name cut count (left_at_ending (standing old))) old new

-- A leaf is written exactly as the definition has it, where it is laid on the line that is begun, and all before it is written.
abbrev pub WritesLeafPieces : {A : Type 0} → Reading → Bool → LeafBlock → Walk A → Walk A → Type 0
WritesLeafPieces r first leaf old new =
    (text : List ℕ) (here : LineRest) (left : List LineRest) (to : Place) → StandsAt text (Within here left) (standing old)
    → IsWrittenToRest old → IsInOrder text old.out → old.on.now ≡ r.parse.constructs
    → IsLeafLaid old.on.now (around (standing old)) leaf (Within here left) to
    → WritesToEnding text (leaf_written r (standing old).outermost first leaf (left_in_line (standing old))) old new

-- exactly this is written, up to the next line
pub record WritesToNextLine {A : Type 0} (text : List ℕ) (w : Written) (old new : Walk A) : Type 0 where
  pub pieces : WritesPieces text w.pieces old.out new.out
  pub left : left_between (standing new) ≡ w.left

-- A blank line is written exactly as the definition has it, where it is laid here.
abbrev pub WritesBlankPieces : {A : Type 0} → Reading → Walk A → Walk A → Type 0
WritesBlankPieces r old new =
    (text : List ℕ) (ending : Option LineEnding) (here : LineRest) (left : List LineRest) (to : Place) → StandsAt text (Within here left) (standing old)
    → IsWrittenToRest old → IsInOrder text old.out → IsBlankLaid old.on.now (around (standing old)) ending (Within here left) to
    → WritesToNextLine text (blank_written r (standing old).outermost (left_in_line (standing old))) old new
