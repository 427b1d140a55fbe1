use Rattle.std.proofs.Common.{◌≡◌, ℕ, List, Option, [], take}
use Rattle.html_inline.proofs.Prelude.{fold, HasLabels, meaning_by, output_view, place_target, printed_at, printed_of, row_printed_in, rows_view}
use Rattle.definition_inline.specs.Inline as inline
use Rattle.html_inline.proofs.rows.push_rows.Given as goal

-- the rows so far are printed
abbrev pub invariant-loop-place : goal.invariant-loop-place
invariant-loop-place g l =
    (definition : List ℕ → Option inline.LinkTexts) (footnotes : List (List ℕ)) → HasLabels l.printing.footnotes.now footnotes →
    let meaning = meaning_by (g.T.Tables.reference_of l.printing.tables.now) l.printing definition footnotes in
    let at = place_target l.printing.definitions.now in
    printed_of meaning at l.rows (output_view l.out) l.scratch.stack.items
    ≡ fold (row_printed_in l.printing.cell meaning) (printed_at (output_view l.fn.out) []) (rows_view at (take l.place l.rows))
