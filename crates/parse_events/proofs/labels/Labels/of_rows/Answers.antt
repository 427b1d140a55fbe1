use Rattle.std.proofs.Common.{◌≡◌, ◌+◌, ◌-◌, ◌++◌, ◌∷◌, [], List, sym, ap, ◌∙◌, subst, take, drop, get_or, arith, length}
use Rattle.std.proofs.lemmas.List.{take_rest, take_all}
use Rattle.parse_events.proofs.Prelude.{BlockLine, HasLabels, piece_line, piece_lines, Row, row_size, row_value, rows_value, RowsValue, taken_more}
use Rattle.block_rows.specs.declared.row.Row.TheVariants.{Paragraph}
use Rattle.block_rows.proofs.RowSteps.{shown_more, left_more}
use Rattle.parse_events.proofs.LabelRows.{one_row_more}
use Rattle.parse_events.proofs.labels.Labels.of_rows.Goals as goal

pub loop-row-preserved : goal.loop-row-preserved
loop-row-preserved g c =
    let rows = c.args.rows.now in
    let pieces = c.args.pieces.now in
    let i = c.loop-row.row-index in
    let row : Row = get_or rows i (Paragraph 0) in
    let all = piece_lines pieces in
    let so_far = rows_value (take i rows) all in
    let k = c.loop-row.invariant in
    let more = shown_more rows all i (Paragraph 0) c.loop-row-test.true in
    let rest : List BlockLine = piece_lines (take (length pieces - c.loop-row.taken) (drop c.loop-row.taken pieces)) in
    let at : rest ≡ so_far.left = ap piece_lines (take_rest pieces c.loop-row.taken) ∙ sym k.left in
    record {
      so_far =
          subst (HasLabels c.row.new.self) (sym (ap (λ (s : RowsValue). s.rows) more))
          (subst (λ (ls : List BlockLine). HasLabels c.row.new.self (so_far.rows ++ row_value row ls ∷ [])) at
          (one_row_more c.loop-row.labels c.row.new.self so_far.rows (row_value row rest) k.so_far c.in_ok-row.ensures.defined c.in_ok-row.ensures.begun));
      left =
          ap (λ (s : RowsValue). s.left) more
          ∙ ap (drop (row_size row)) k.left
          ∙ left_more piece_line (row_size row) c.loop-row.taken pieces
          ∙ ap (λ n. piece_lines (drop (c.loop-row.taken + n) pieces)) (sym c.size-taken.ensures);
      enough = omega (arith, k.enough, c.size-taken.ensures, taken_more rows i (Paragraph 0) c.loop-row-test.true);
    }

pub returns : goal.returns
returns g c = record {
  labels =
      subst (λ (rs : List Row). HasLabels c.loop-row.labels (rows_value rs (piece_lines c.args.pieces.now)).rows)
      (take_all c.loop-row.row-index c.args.rows.now c.loop-row-test.false) c.loop-row.invariant.so_far;
}
