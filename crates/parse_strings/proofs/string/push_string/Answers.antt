use Rattle.std.proofs.Common.{◌≡◌, ◌<◌, arith, drop, length, refl, subst, sym, ap, ◌∙◌}
use Rattle.parse_strings.proofs.Prelude.{eqb-false, eqb-true, IsCharBoundary}
use Rattle.parse_strings.proofs.Parts.{front_all, front_more, front_none, none_left}
use Rattle.parse_strings.proofs.string.push_string.Goals as goal

pub loop-rest-init : goal.loop-rest-init
loop-rest-init g c = record {
  utf8 = c.utf8.string;
  open_is = refl;
  written = λ text content stop apart st whole.
      front_none text stop c.args.on.now (g.T.Tables.reference_of c.args.tables.now) _ c.args.string.now content st whole;
}

pub loop-rest-preserved : goal.loop-rest-preserved
loop-rest-preserved g c =
    let rest = c.loop-rest.rest.now in
    let apart : length rest ≡ 0 → ⊥ = eqb-false (length rest) 0 (sym c.is_empty.ensures ∙ c.loop-rest-test.true) in
    let some : 0 < length rest = omega (arith, apart) in
    let size = c.in_ok-size.size in
    record {
      utf8 = c.from-rest.utf8;
      open_is = c.in_ok-size.ensures.open ∙ c.loop-rest.invariant.open_is;
      written = λ text content stop apart st whole.
          front_more text stop c.args.on.now (g.T.Tables.reference_of c.args.tables.now) _ _ _ c.args.string.now rest c.from-rest.result.now content size apart
          (c.loop-rest.invariant.written text content stop apart st whole) (c.in_ok-size.ensures.written text content stop some)
          (λ filled cut.
          let same : c.max.result ≡ size = omega (arith, c.max.ensures, filled) in
          c.from-rest.ensures.rest (subst (IsCharBoundary rest) (sym same) cut) ∙ ap (λ k. drop k rest) same)
          c.loop-rest.invariant.utf8;
    }

pub returns-clause-written : goal.returns-clause-written
returns-clause-written g c = λ text content stop apart st whole.
    let rest = c.loop-rest.rest.now in
    let none : length rest ≡ 0 = eqb-true (length rest) 0 (sym c.is_empty.ensures ∙ c.loop-rest-test.false) in
    front_all text stop c.args.on.now (g.T.Tables.reference_of c.args.tables.now) _ _ c.args.string.now rest content (none_left rest none)
    (c.loop-rest.invariant.written text content stop apart st whole)
