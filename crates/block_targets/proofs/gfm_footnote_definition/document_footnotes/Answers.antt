use Rattle.std.proofs.Common.{◌≡◌, ◌+◌, ◌-◌, ◌++◌, ◌∷◌, [], List, true, sym, ap, ◌∙◌, take, drop, get_or, arith, length, subst}
use Rattle.std.proofs.lemmas.Bool.{and_parts}
use Rattle.block_targets.proofs.Prelude.{are_bare_rows, BlockLine, BlockRow, fold-append, HasLabelsSoFar, is_bare_row, labels_so_far, left_more, note_row}
use Rattle.block_targets.proofs.Prelude.{note_rows, nothing_noted, piece_line, piece_lines, Row, row_size, row_value, rows_value, RowsValue, shown_more}
use Rattle.block_targets.proofs.Prelude.{take_all, take_rest, taken_more}
use Rattle.std.proofs.lemmas.List.Folds.{list_all-append}
use Rattle.block_rows.specs.declared.row.Row.TheVariants.{Paragraph}
use Rattle.block_targets.proofs.Notes.{notes_of}
use Rattle.block_targets.proofs.NoFootnote.{no_footnotes}
use Rattle.block_targets.proofs.gfm_footnote_definition.document_footnotes.Goals as goal

-- the last of some rows is bare, and so are those before it
bare_more : (rows : List BlockRow) (row : BlockRow) → are_bare_rows (rows ++ row ∷ []) ≡ true → (are_bare_rows rows ≡ true) × (is_bare_row row ≡ true)
bare_more rows row h =
    let both = and_parts (are_bare_rows rows) (are_bare_rows (row ∷ [])) (sym (list_all-append is_bare_row rows (row ∷ [])) ∙ h) in
    (both.0, (and_parts (is_bare_row row) true both.1).0)

pub loop-row-preserved : goal.loop-row-preserved
loop-row-preserved g c =
    let rows = c.args.rows.now in
    let pieces = c.args.pieces.now in
    let i = c.loop-row.row-index in
    let row : Row = get_or rows i (Paragraph 0) in
    let all = piece_lines pieces in
    let so_far = rows_value (take i rows) all in
    let k = c.loop-row.invariant in
    let more = shown_more rows all i (Paragraph 0) c.loop-row-test.true in
    let rest : List BlockLine = piece_lines (take (length pieces - c.loop-row.at) (drop c.loop-row.at pieces)) in
    let at : rest ≡ so_far.left = ap piece_lines (take_rest pieces c.loop-row.at) ∙ sym k.left in
    let next = row_value row so_far.left in
    record {
      so_far = λ bare.
          let parts = bare_more so_far.rows next (sym (ap (λ (s : RowsValue). are_bare_rows s.rows) more) ∙ bare) in
          subst (HasLabelsSoFar c.row.new.self)
          (ap (λ (ls : List BlockLine). note_row (note_rows so_far.rows) (row_value row ls)) at
          ∙ sym (fold-append note_row nothing_noted so_far.rows (next ∷ []))
          ∙ sym (ap (λ (s : RowsValue). note_rows s.rows) more))
          (c.in_ok-row.ensures.read (note_rows so_far.rows) (k.so_far parts.0) (ap (λ (ls : List BlockLine). is_bare_row (row_value row ls)) at ∙ parts.1));
      left =
          ap (λ (s : RowsValue). s.left) more
          ∙ ap (drop (row_size row)) k.left
          ∙ left_more piece_line (row_size row) c.loop-row.at pieces
          ∙ ap (λ n. piece_lines (drop (c.loop-row.at + n) pieces)) (sym c.size-at.ensures);
      enough = omega (arith, k.enough, c.size-at.ensures, taken_more rows i (Paragraph 0) c.loop-row-test.true);
    }

pub returns : goal.returns
returns g c = λ bs rows_are bare _.
    let rows = c.args.rows.now in
    let all = piece_lines c.args.pieces.now in
    let whole : take c.loop-row.row-index rows ≡ rows = take_all c.loop-row.row-index rows c.loop-row-test.false in
    let all_rows = ap (λ (rs : List Row). (rows_value rs all).rows) whole ∙ rows_are in
    subst (HasLabelsSoFar c.loop-row.found) (ap note_rows all_rows ∙ notes_of bs [] []) (c.loop-row.invariant.so_far (ap are_bare_rows all_rows ∙ bare))

pub returns-then-not-has_footnotes : goal.returns-then-not-has_footnotes
returns-then-not-has_footnotes g c = λ bs rows_are bare _.
    let none = no_footnotes c.args.rows.now (piece_lines c.args.pieces.now) bs (sym c.has_footnotes.ensures ∙ c.if-not-has_footnotes.true) rows_are in
    subst (λ names. HasLabelsSoFar c.in_ok-found.found (labels_so_far names [])) (sym none) c.in_ok-found.ensures

pub returns-then-not-may_define : goal.returns-then-not-may_define
returns-then-not-may_define g c = λ bs rows_are bare none.
    subst (λ names. HasLabelsSoFar c.in_ok-found.found (labels_so_far names [])) (sym (none c.if-not-may_define.true)) c.in_ok-found.ensures
