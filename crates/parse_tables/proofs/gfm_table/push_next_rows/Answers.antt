use Rattle.std.proofs.Common.{◌+◌, drop, refl, ap, ◌∙◌}
use Rattle.std.proofs.lemmas.List.{drop_more}
use Rattle.parse_tables.proofs.Prelude.{piece_lines, reading_by}
use Rattle.parse_inline.proofs.AllRows.{drop_past}
use Rattle.parse_tables.proofs.RowsWritten.{all_rows, no_rows, rows_so_far}
use Rattle.parse_tables.proofs.gfm_table.push_next_rows.Goals as goal

pub loop-row-init : goal.loop-row-init
loop-row-init g c = record {
  «open» = refl;
  so_far = λ ds knows. no_rows (reading_by g.T.Tables c.args.texts.now ds) c.args.walk.now (piece_lines c.args.rows.now);
}

pub loop-row-preserved : goal.loop-row-preserved
loop-row-preserved g c =
    let rows = c.args.rows.now in
    let i = c.loop-row.row-index in
    let pushed = c.in_ok-push_next_row.ensures in
    record {
      «open» = pushed.open ∙ c.loop-row.invariant.open;
      so_far = λ ds knows.
          rows_so_far (reading_by g.T.Tables c.args.texts.now ds) c.args.walk.now c.loop-row.walk c.push_next_row.new.walk (piece_lines rows)
          (piece_lines (drop i rows)) _ (piece_lines (drop (i + 1) rows)) (ap piece_lines (drop_more rows i _ c.loop-row-test.true))
          (c.loop-row.invariant.so_far ds knows) (pushed.written ds knows);
    }

pub returns-clause-written : goal.returns-clause-written
returns-clause-written g c = λ ds knows.
    let rows = c.args.rows.now in
    all_rows (reading_by g.T.Tables c.args.texts.now ds) c.args.walk.now c.loop-row.walk (piece_lines rows) (piece_lines (drop c.loop-row.row-index rows))
    (ap piece_lines (drop_past rows c.loop-row.row-index c.loop-row-test.false)) (c.loop-row.invariant.so_far ds knows)
