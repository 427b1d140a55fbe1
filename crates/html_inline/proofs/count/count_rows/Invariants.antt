use Rattle.std.proofs.Common.{◌≡◌, ℕ, List, Option, take}
use Rattle.html_inline.proofs.Prelude.{fold, HasLabels, in_bytes, lay, meaning_by, output_view, place_target, rows_counts, rows_view}
use Rattle.definition_inline.specs.Inline as inline
use Rattle.html_inline.proofs.count.count_rows.Given as goal

-- the calls among the rows so far are counted
abbrev pub invariant-loop-row : goal.invariant-loop-row
invariant-loop-row g l =
    (definition : List ℕ → Option inline.LinkTexts) (footnotes : List (List ℕ)) (default : List ℕ) → HasLabels l.printing.footnotes.now footnotes →
    let meaning = meaning_by (g.T.Tables.reference_of l.printing.tables.now) l.printing definition footnotes in
    output_view l.out
    ≡ fold (lay meaning.compile default) (output_view l.fn.out) (in_bytes (rows_counts meaning
    (rows_view (place_target l.printing.definitions.now) (take l.row-index l.rows))))
