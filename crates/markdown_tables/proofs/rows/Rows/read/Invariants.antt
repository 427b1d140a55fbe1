use Rattle.std.proofs.Common.{List, length}
use denote.Text.{Utf8}
use denote.Shadow.{shadow}
use Rattle.definition_text.specs.Lines.{lines}
use Rattle.definition_inline.specs.ReferenceRows.{Row}
use Rattle.markdown_tables.specs.Rows.{HasRows}
use Rattle.markdown_tables.proofs.Reading.{IsAfter}
use Rattle.markdown_tables.proofs.rows.Rows.read.Given as goal

-- the rows of the lines so far, none of which is at fault
abbrev pub invariant-loop-rest : goal.invariant-loop-rest
invariant-loop-rest g l = shadow (Utf8 l.rest) × ((earlier : List Row) × IsAfter l.fn.text l.number earlier l.rest × HasRows l.read earlier)

abbrev pub decreases-loop-rest : goal.decreases-loop-rest
decreases-loop-rest g l = length (lines l.rest)
