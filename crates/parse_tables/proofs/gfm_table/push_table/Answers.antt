use Rattle.std.proofs.Common.{List, [], subst, arith}
use Rattle.std.proofs.lemmas.List.{length-map}
use Rattle.parse_tables.proofs.Prelude.{BlockLine, own_lines, piece_line, piece_lines, reading_by, Table, WritesReadLeaf}
use Rattle.parse_tables.proofs.RowWritten.{row_ended}
use Rattle.parse_tables.proofs.TablesWritten.{no_table, table_written, two_pieces}
use Rattle.parse_tables.proofs.gfm_table.push_table.Goals as goal

pub returns-in_default-clause-written : goal.returns-in_default-clause-written
returns-in_default-clause-written g c = λ ds knows first.
    let lines = c.args.lines.now in
    let few = c.in_default.len_below in
    no_table (reading_by g.T.Tables c.args.texts.now ds) first (piece_lines lines) c.args.walk.now c.args.walk.now
    (omega (arith, few, length-map lines piece_line))

pub returns-clause-written : goal.returns-clause-written
returns-clause-written g c =
    row_ended c.exit.result c.exit.ensures.stays c.exit.ensures.end c.exit.ensures.exits
    (λ exits ds knows first.
    let r = reading_by g.T.Tables c.args.texts.now ds in
    subst (λ (ls : List BlockLine). WritesReadLeaf r first (Table (own_lines ls)) [] c.args.walk.now c.exit.new.self)
    (two_pieces c.args.lines.now _ c.in-len2-up.len_at_least)
    (table_written r _ _ _ c.args.walk.now c.enter.new.self c.push_head.new.walk c.push_body.new.walk c.exit.new.self
    (let e = c.in_ok-enter.ensures in record { stays = e.stays; end = e.end; enters = e.enters })
    (c.in_ok-push_head.ensures.written ds knows) (c.in_ok-push_body.ensures.written ds knows) exits first))
