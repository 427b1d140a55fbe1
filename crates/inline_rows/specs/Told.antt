-- What the rows of a run become.
use Rattle.std.specs.Prelude.{◌+◌, ℕ, List, [], ◌∷◌, length}
use Rattle.std.specs.List.{flat_map}
use Rattle.definition_inline.specs.Inline.{Target, LinkTexts}
use Rattle.inline_rows.specs.InlineRows as rows
use Rattle.inline_rows.specs.InlineRows.{part_rows}
use Rattle.definition_inline.specs.SpanRows.{SpanRow, Holds, Opens, Closes}
use Rattle.inline_runs.specs.View.{span_by}
use Rattle.inline_runs.specs.declared.pair.Pair.{Pair}
use Rattle.inline_runs.specs.declared.spans.RunSpans.{RunSpans}
use Rattle.inline_rows.specs.declared.row.InlineRow.{InlineRow}
use Rattle.inline_rows.specs.declared.row.InlineRow.TheVariants.{EnterSpan}

-- the rows of a part, of the start of a span and of the end of one
abbrev pub span_row_rows : (Target → LinkTexts) → SpanRow → List rows.InlineRow
span_row_rows leads (Holds i) = part_rows leads i
span_row_rows leads (Opens span) = rows.EnterSpan span ∷ []
span_row_rows leads Closes = rows.Leave ∷ []

abbrev pub told_rows : (Target → LinkTexts) → List SpanRow → List rows.InlineRow
told_rows leads rs = flat_map (span_row_rows leads) rs

-- the start of what a pair of runs of this byte stands for
abbrev pub start_row : ℕ → Pair → InlineRow
start_row marker p = EnterSpan (span_by marker p.double)

-- how many rows a run needs at most
abbrev pub rows_needed : RunSpans → ℕ
rows_needed spans = length spans.closed.now + spans.text + length spans.opened.now
