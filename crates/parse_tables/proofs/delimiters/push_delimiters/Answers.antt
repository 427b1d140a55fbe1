use Rattle.std.proofs.Common.{◌≡◌, ◌∙◌, ℕ, List, refl, ap, sym, arith, subst, drop, length, max}
use Rattle.parse_tables.proofs.Prelude.{eqb-true}
use Rattle.std.proofs.lemmas.Bool.{eqb-false}
use Rattle.parse_tables.proofs.RowWritten.{WritesRowSoFar, row_begins, row_ended, row_ends, row_more}
use Rattle.parse_tables.proofs.delimiters.push_delimiters.Goals as goal

pub loop-rest-init : goal.loop-rest-init
loop-rest-init g c = (
  refl,
  row_begins c.args.walk.now c.white.new.self c.enter.new.self c.as_bytes-rest.result.now (c.as_bytes-rest.ensures.value ∙ c.in_ok-white.ensures.bare)
      c.in_ok-white.ensures.stays c.in_ok-white.ensures.end c.in_ok-white.ensures.written
      (let e = c.in_ok-enter.ensures in record { stays = e.stays; end = e.end; enters = e.enters }),
)

pub loop-rest-preserved : goal.loop-rest-preserved
loop-rest-preserved g c =
    let rest : List ℕ = c.loop-rest.rest.now in
    let some = eqb-false (length rest) 0 (sym c.is_empty.ensures ∙ c.loop-rest-test.true) in
    let left : c.bytes_from-rest.result.now ≡ drop (max c.in_ok-size.size 1) rest =
    c.bytes_from-rest.ensures.rest ∙ ap (λ (k : ℕ). drop k rest) c.max.ensures in (
      c.in_ok-size.ensures.open ∙ c.loop-rest.invariant.0,
      subst (λ (xs : List ℕ). WritesRowSoFar xs c.args.walk.now c.push_part.new.walk) (sym left)
          (row_more c.args.walk.now c.loop-rest.walk c.push_part.new.walk rest c.in_ok-size.size (omega (arith, some)) c.in_ok-size.ensures.written
          c.loop-rest.invariant.1),
    )

pub returns-clause-written : goal.returns-clause-written
returns-clause-written g c =
    let none = eqb-true (length c.loop-rest.rest.now) 0 (sym c.is_empty.ensures ∙ c.loop-rest-test.false) in
    row_ended c.exit.result c.exit.ensures.stays c.exit.ensures.end c.exit.ensures.exits
    (row_ends c.args.walk.now c.loop-rest.walk c.exit.new.self c.loop-rest.rest.now none c.loop-rest.invariant.1)
