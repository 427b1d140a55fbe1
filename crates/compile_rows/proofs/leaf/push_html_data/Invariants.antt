use Rattle.std.proofs.Common.{◌≡◌, ◌++◌, ℕ, length, map}
use denote.Shadow.{shadow}
use denote.Text.{Utf8}
use Rattle.compile_rows.proofs.Prelude.{LinkTexts, Part, rows_view}
use Rattle.definition_text.specs.Lines.{lines}
use Rattle.event_meaning.specs.Texts.{html_data}
use Rattle.compile_rows.proofs.leaf.push_html_data.Given as goal

-- the rows so far, with those of the rest, are all
abbrev pub invariant-loop-rest : goal.invariant-loop-rest
invariant-loop-rest g l = record {
  rows : (at : ℕ → LinkTexts) → rows_view at l.rows.items ++ map Part (html_data l.rest) ≡ rows_view at l.initial.rows.items ++ map Part (html_data l.html);
  text : shadow (Utf8 l.rest);
}

abbrev pub decreases-loop-rest : goal.decreases-loop-rest
decreases-loop-rest g l = length (lines l.rest)
