use Rattle.std.proofs.Common.{◌≡◌, ◌+◌, ◌-◌, ◌++◌, ◌∷◌, [], List, sym, ap, ◌∙◌, subst, take, drop, get_or, arith, length}
use Rattle.std.proofs.lemmas.List.{take_rest, take_all}
use Rattle.definition_text.specs.BlockLines.{BlockLine}
use Rattle.text_pieces.specs.Pieces.{piece_line, piece_lines}
use Rattle.block_rows.specs.Rows.{row_size, row_value, rows_value, RowsValue}
use Rattle.block_rows.specs.declared.row.Row.{Row}
use Rattle.block_rows.specs.declared.row.Row.TheVariants.{Paragraph}
use Rattle.block_rows.proofs.RowSteps.{left_more, shown_more, taken_more}
use Rattle.format_pages.specs.Hidden.{HasHidden}
use Rattle.format_pages.proofs.Rows.{one_row_more}
use Rattle.format_pages.proofs.hidden.Hidden.of_rows.Goals as goal

pub loop-row-preserved : goal.loop-row-preserved
loop-row-preserved c =
    let rows = c.args.rows.now in
    let pieces = c.args.pieces.now in
    let i = c.loop-row.row-index in
    let row : Row = get_or rows i (Paragraph 0) in
    let all = piece_lines pieces in
    let so_far = rows_value (take i rows) all in
    let k = c.loop-row.invariant in
    let more = shown_more rows all i (Paragraph 0) c.loop-row-test.true in
    let rest : List BlockLine = piece_lines (take (length pieces - c.loop-row.taken) (drop c.loop-row.taken pieces)) in
    let at : rest ≡ so_far.left = ap piece_lines (take_rest pieces c.loop-row.taken) ∙ sym k.left in
    let ensures = c.in_ok-row.ensures in
    record {
      so_far =
          subst (HasHidden c.row.new.self) (sym (ap (λ (s : RowsValue). s.rows) more))
          (subst (λ (ls : List BlockLine). HasHidden c.row.new.self (so_far.rows ++ row_value row ls ∷ [])) at
          (one_row_more c.loop-row.hidden c.row.new.self so_far.rows (row_value row rest) k.so_far ensures.infos ensures.footnotes ensures.definitions));
      left =
          ap (λ (s : RowsValue). s.left) more
          ∙ ap (drop (row_size row)) k.left
          ∙ left_more piece_line (row_size row) c.loop-row.taken pieces
          ∙ ap (λ n. piece_lines (drop (c.loop-row.taken + n) pieces)) (sym c.size-taken.ensures);
      enough = omega (arith, k.enough, c.size-taken.ensures, taken_more rows i (Paragraph 0) c.loop-row-test.true);
    }

pub returns : goal.returns
returns c =
    subst (λ (rs : List Row). HasHidden c.loop-row.hidden (rows_value rs (piece_lines c.args.pieces.now)).rows)
    (take_all c.loop-row.row-index c.args.rows.now c.loop-row-test.false) c.loop-row.invariant.so_far
