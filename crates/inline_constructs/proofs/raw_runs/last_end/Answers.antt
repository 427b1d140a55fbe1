use Rattle.std.proofs.Common.{◌∙◌, sym, ap, arith, is_some, length}
use Rattle.inline_constructs.proofs.Prelude.{cond-false, cond-true, eq-eqb, ltb-false, ltb-true, ne_eqb}
use Rattle.inline_constructs.proofs.RawRuns.{end_there, end_nowhere}
use Rattle.inline_constructs.proofs.raw_runs.last_end.Goals as goal

pub returns-in-Some : goal.returns-in-Some
returns-in-Some c =
    let rs = c.args.runs.now in
    let r = c.in-Some.run'.now in
    let lt = ltb-true c.smaller.result (length rs) (sym c.in-Some.ensures.lookup.0) in
    sym (end_there rs c.args.size c.smaller.result r c.smaller.ensures lt c.in-Some.ensures.lookup.1
    ∙ cond-true _ _ _ (eq-eqb r.size c.args.size c.if-run-size.true))

pub returns-in_default : goal.returns-in_default
returns-in_default c =
    let rs = c.args.runs.now in
    let r = c.in-Some.run'.now in
    let lt = ltb-true c.smaller.result (length rs) (sym c.in-Some.ensures.lookup.0) in
    sym (end_there rs c.args.size c.smaller.result r c.smaller.ensures lt c.in-Some.ensures.lookup.1
    ∙ cond-false _ _ _ (ne_eqb r.size c.args.size c.if-run-size.false))

pub returns-in_default-2 : goal.returns-in_default-2
returns-in_default-2 c =
    let rs = c.args.runs.now in
    let ge = ltb-false c.smaller.result (length rs) (sym (ap is_some (sym c.in_default.is) ∙ c.get.ensures.lookup.0)) in
    sym (end_nowhere rs c.args.size (omega (arith, ge, c.smaller.ensures)))
