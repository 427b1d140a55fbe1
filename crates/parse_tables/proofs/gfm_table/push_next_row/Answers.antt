use Rattle.parse_tables.proofs.Prelude.{on_ok_weaker, piece_line, reading_by}
use Rattle.parse_tables.proofs.RowsWritten.{next_row_written}
use Rattle.parse_tables.proofs.gfm_table.push_next_row.Goals as goal

pub returns-clause-written : goal.returns-clause-written
returns-clause-written g c =
    let next = c.in_ok-next_line.ensures in
    on_ok_weaker c.push_row.result
    (λ row ds knows.
    next_row_written (reading_by g.T.Tables c.args.texts.now ds) (piece_line c.args.row) c.args.walk.now c.next_line.new.self c.push_row.new.walk next.passes
    next.written next.around (row ds knows))
    c.push_row.ensures.written
