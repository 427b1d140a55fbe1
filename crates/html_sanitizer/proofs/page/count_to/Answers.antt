use Rattle.std.proofs.Common.{arith, sym, ◌∙◌}
use Rattle.html_safe_page.specs.Views.{names_of}
use Rattle.html_sanitizer.proofs.Ends.{none_passed, one_passed, found_here, found_nowhere}
use Rattle.html_sanitizer.proofs.page.count_to.Goals as goal

pub loop-above-init : goal.loop-above-init
loop-above-init c = none_passed (names_of c.args.wanted.now) c.args.names.now

pub loop-above-preserved : goal.loop-above-preserved
loop-above-preserved c =
    one_passed (names_of c.args.wanted.now) c.args.names.now c.loop-above.above c.name_at.result.now c.loop-above.invariant (omega arith)
    c.name_at.ensures (sym c.is_in.ensures ∙ c.if-is_in.false)

pub returns-then-is_in : goal.returns-then-is_in
returns-then-is_in c =
    found_here (names_of c.args.wanted.now) c.args.names.now c.loop-above.above c.name_at.result.now c.loop-above.invariant (omega arith)
    c.name_at.ensures (sym c.is_in.ensures ∙ c.if-is_in.true)

pub returns : goal.returns
returns c = found_nowhere (names_of c.args.wanted.now) c.args.names.now c.loop-above.above c.loop-above.invariant (omega arith)
