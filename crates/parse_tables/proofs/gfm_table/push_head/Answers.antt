use Rattle.parse_tables.proofs.Prelude.{piece_line, reading_by}
use Rattle.parse_tables.proofs.RowWritten.{row_ended}
use Rattle.parse_tables.proofs.BodyWritten.{head_written}
use Rattle.parse_tables.proofs.gfm_table.push_head.Goals as goal

pub returns-clause-written : goal.returns-clause-written
returns-clause-written g c =
    let next = c.in_ok-next_line.ensures in
    row_ended c.exit.result c.exit.ensures.stays c.exit.ensures.end c.exit.ensures.exits
    (λ exits ds knows.
    head_written (reading_by g.T.Tables c.args.texts.now ds) (piece_line c.args.head) c.args.walk.now c.enter.new.self c.push_row.new.walk
    c.next_line.new.self c.push_delimiters.new.walk c.exit.new.self
    (let e = c.in_ok-enter.ensures in record { stays = e.stays; end = e.end; enters = e.enters })
    (c.in_ok-push_row.ensures.written ds knows) next.passes next.written next.around c.in_ok-push_delimiters.ensures.written exits)
