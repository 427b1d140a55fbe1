use Rattle.std.proofs.Common.{ap, ◌∙◌}
use Rattle.parse_tables.proofs.Prelude.{run}
use Rattle.parse_tables.proofs.ColumnWritten.{column_written}
use Rattle.parse_tables.proofs.delimiters.push_delimiter.Goals as goal

pub returns-clause-written : goal.returns-clause-written
returns-clause-written g c =
    column_written c.args.walk.now c.enter.new.self c.enter-2.new.self c.token.new.self c.token-2.new.self c.token-3.new.self c.exit.new.self c.exit-2.new.self
    c.args.bytes.now c.run-left.result c.run-dashes.result c.saturating_add-size.result c.run-right.result c.saturating_add.result
    (let e = c.in_ok-enter.ensures in record { stays = e.stays; end = e.end; enters = e.enters })
    (let e = c.in_ok-enter-2.ensures in record { stays = e.stays; end = e.end; enters = e.enters })
    c.run-left.ensures.size
    (let e = c.in_ok-token.ensures in record { stays = e.stays; end = e.end; written = e.written })
    (c.run-dashes.ensures.size ∙ ap (run 45) c.bytes_from.ensures.rest)
    (let e = c.in_ok-token-2.ensures in record { stays = e.stays; end = e.end; written = e.written })
    c.saturating_add-size.ensures
    (c.run-right.ensures.size ∙ ap (run 58) c.bytes_from-2.ensures.rest)
    (let e = c.in_ok-token-3.ensures in record { stays = e.stays; end = e.end; written = e.written })
    (let e = c.in_ok-exit.ensures in record { stays = e.stays; end = e.end; exits = e.exits })
    (let e = c.in_ok-exit-2.ensures in record { stays = e.stays; end = e.end; exits = e.exits })
    c.saturating_add.ensures
