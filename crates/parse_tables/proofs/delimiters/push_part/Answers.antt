use Rattle.std.proofs.Common.{◌∙◌, sym, arith}
use Rattle.parse_tables.proofs.RowWritten.{bar_part, if_ok, other_part, white_part}
use Rattle.parse_tables.proofs.delimiters.push_part.Goals as goal

pub returns-then-first-eq124-clause-written : goal.returns-then-first-eq124-clause-written
returns-then-first-eq124-clause-written g c =
    bar_part c.args.walk.now c.token.new.self c.args.bytes.now (sym c.first.ensures ∙ c.if-first-eq124.true)
    (let e = c.in_ok-token.ensures in record { stays = e.stays; end = e.end; written = e.written })

pub returns-then-white-gt0-clause-written : goal.returns-then-white-gt0-clause-written
returns-then-white-gt0-clause-written g c =
    white_part c.args.walk.now c.token-then-white-gt0.new.self c.args.bytes.now c.white_size-white.result c.white_size-white.ensures.size c.if-white-gt0.true
    (let e = c.in_ok-token-2.ensures in record { stays = e.stays; end = e.end; written = e.written })

pub returns-clause-written : goal.returns-clause-written
returns-clause-written g c =
    if_ok c.push_delimiter.result
    (λ size h.
    other_part c.args.walk.now c.push_delimiter.new.walk c.args.bytes.now size (λ is. c.if-first-eq124.false (c.first.ensures ∙ is))
    (let e = c.white_size-white.ensures.size in let f = c.if-white-gt0.false in omega (arith, e, f)) h)
    c.push_delimiter.ensures.written
