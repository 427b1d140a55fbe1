use Rattle.std.proofs.Common.{List, sym, subst}
use Rattle.parse_tables.proofs.Prelude.{BlockLine, reading_by, WritesBodyHere}
use Rattle.parse_tables.proofs.RowWritten.{row_ended}
use Rattle.parse_tables.proofs.BodyWritten.{body_written, no_body}
use Rattle.parse_tables.proofs.TablesWritten.{first_piece, no_piece}
use Rattle.parse_tables.proofs.gfm_table.push_body.Goals as goal

pub returns-in_default-clause-written : goal.returns-in_default-clause-written
returns-in_default-clause-written g c = λ ds knows.
    let r = reading_by g.T.Tables c.args.texts.now ds in
    let walk = c.args.walk.now in
    subst (λ (ls : List BlockLine). WritesBodyHere r ls walk walk) (sym (no_piece c.args.rows.now c.in_default.len_below)) (no_body r walk)

pub returns-clause-written : goal.returns-clause-written
returns-clause-written g c =
    let next = c.in_ok-next_line.ensures in
    row_ended c.exit.result c.exit.ensures.stays c.exit.ensures.end c.exit.ensures.exits
    (λ exits ds knows.
    let r = reading_by g.T.Tables c.args.texts.now ds in
    subst (λ (ls : List BlockLine). WritesBodyHere r ls c.args.walk.now c.exit.new.self) (first_piece c.args.rows.now _ c.in-len1-up.len_at_least)
    (body_written r c.args.walk.now _ _ c.next_line.new.self c.enter.new.self c.push_row.new.walk c.push_next_rows.new.walk c.exit.new.self next.passes
    next.written next.around (let e = c.in_ok-enter.ensures in record { stays = e.stays; end = e.end; enters = e.enters })
    (c.in_ok-push_row.ensures.written ds knows) (c.in_ok-push_next_rows.ensures.written ds knows) exits))
