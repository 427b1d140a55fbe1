-- What a walk writes of a line that it is in (CommonMark 2.1).
use Rattle.std.specs.Prelude.{◌≡◌, ℕ, ◌+◌, false, List, [], Option, length}
use Rattle.std.specs.List.{list_any}
use Rattle.markdown_options.specs.declared.line_ending.LineEnding.{LineEnding}
use Rattle.definition_text.specs.Lines.{ends_line}
use Rattle.engine_events.specs.declared.event.Name.TheVariants as n
use Rattle.event_grammar.specs.References.{named}
use Rattle.event_grammar.specs.Trees.{Nodes}
use Rattle.parse_output.specs.Written.{IsInOrder, Writes, end_in}
use Rattle.parse_laid.specs.Places.{LineRest, AtEnding}
use Rattle.parse_lines.specs.declared.walk.Walk.{Walk}
use Rattle.parse_lines.specs.Content.{AreNext}
use Rattle.parse_lines.specs.InContent.{IsWhole}
use Rattle.parse_lines.specs.Standing.{StandsAt, standing}
use Rattle.parse_lines.specs.Steps.{HasSameOpen}

-- a walk is in a line, of which these bytes are ahead, and all before them is written
pub record IsBefore {A : Type 0} (text line : List ℕ) (ending : Option LineEnding) (left : List LineRest) (w : Walk A) : Type 0 where
  pub at : StandsAt text (AtEnding ending left) (standing w)
  pub order : IsInOrder text w.out
  pub next : AreNext text (end_in w.out) line
  pub bare : IsWhole w
  pub end : (end_in w.out).index + length line ≡ w.line_end
  pub dark : list_any ends_line line ≡ false

-- nodes in which no definition and no delimiter of a column is, and so many of them are cells
pub record AreInRow (ns : Nodes) : Type 0 where
  pub definitions : named n.Definition ns ≡ []
  pub columns : named n.GfmTableDelimiterCellValue ns ≡ []

-- nodes are written up to where these bytes are ahead
pub record WritesTo {A : Type 0} (text line : List ℕ) (ending : Option LineEnding) (left : List LineRest) (ns : Nodes) (old new : Walk A) : Type 0 where
  pub writes : Writes text old.out new.out ns
  pub before : IsBefore text line ending left new
  pub around : HasSameOpen (standing old) (standing new)
