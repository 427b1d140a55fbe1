use Rattle.std.proofs.Common.{arith}
use Rattle.parse_raw.proofs.Prelude.{all_prefix, is_white}
use Rattle.parse_raw.proofs.Breaks.{sequence_part, space_part}
use Rattle.parse_raw.proofs.Tokens.{run_some}
use Rattle.parse_raw.proofs.Runs.{part_fits}
use Rattle.parse_raw.proofs.BreakPieces.{marker_front}
use Rattle.parse_raw.proofs.thematic_break.push_part.Goals as goal

pub returns-then-white-gt0-clause-size : goal.returns-then-white-gt0-clause-size
returns-then-white-gt0-clause-size g c = c.white_size-white.ensures.within

pub returns-then-white-gt0-clause-written : goal.returns-then-white-gt0-clause-written
returns-then-white-gt0-clause-written g c = λ marker are.
    let token = c.in_ok-token.ensures in
    space_part c.args.bytes.now c.white_size-white.result c.args.walk.now c.token.new.self (omega (arith, c.if-white-gt0.true)) c.white_size-white.ensures.within
    (all_prefix is_white c.white_size-white.result c.args.bytes.now (omega (arith, c.white_size-white.ensures.size)))
    (λ k. omega (arith, c.type_inv.bytes k)) c.white_size-white.ensures.size token.stays token.end token.written

pub returns-clause-some : goal.returns-clause-some
returns-clause-some g c some =
    let run = run_some c.args.bytes.now c.first.result some c.first.ensures in
    omega (arith, run, c.run-size.ensures.size)

pub returns-clause-written : goal.returns-clause-written
returns-clause-written g c = λ marker are.
    let token = c.in_ok-token-2.ensures in
    let run = run_some c.args.bytes.now c.first.result c.requires.some c.first.ensures in
    sequence_part c.args.bytes.now c.run-size.result c.args.walk.now c.token-2.new.self
    (λ dark. omega (arith, run, c.run-size.ensures.size))
    c.run-size.ensures.within (λ k. omega (arith, c.type_inv.bytes k))
    (marker_front marker c.first.result c.run-size.result c.args.bytes.now are (omega (arith, c.white_size-white.ensures.size, c.if-white-gt0.false))
    c.first.ensures c.run-size.ensures.size)
    (part_fits marker c.first.result c.run-size.result c.args.bytes.now (omega (arith, run, c.run-size.ensures.size)) are
    (omega (arith, c.white_size-white.ensures.size, c.if-white-gt0.false)) c.first.ensures
    c.run-size.ensures.size) token.stays token.end token.written
