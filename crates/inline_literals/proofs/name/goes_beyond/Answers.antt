use Rattle.std.proofs.Common.{get_or, sym, ap, ◌∙◌, arith}
use Rattle.definition_text.specs.Content.{content_codes}
use Rattle.definition_inline.specs.GfmAutolinkLiteral.{ends_literal}
use Rattle.inline_literals.specs.Literals.{is_kept}
use Rattle.inline_literals.proofs.InVain.{kept_name}
use Rattle.inline_literals.proofs.Names.{run_goes_on}
use Rattle.inline_literals.proofs.name.goes_beyond.Goals as goal

pub returns-then-is_kept : goal.returns-then-is_kept
returns-then-is_kept c = λ e.
    let after = c.args.after.now in
    let n = c.loop-i.i in
    let now = c.loop-i.invariant in
    let goes = ap (λ l. ends_literal (get_or after n 0) (content_codes l)) (sym c.from-next.ensures) ∙ sym c.ends_literal.ensures ∙ c.if-ends_literal.false in
    let kept = ap (is_kept (get_or after n 0)) (sym c.from-next.ensures) ∙ sym c.is_kept.ensures ∙ c.if-is_kept.true in
    omega (arith, c.if-i-size.true, kept_name n after c.loop-i-test.true now.plain now.so_far goes kept)

pub loop-i-preserved : goal.loop-i-preserved
loop-i-preserved c =
    let after = c.args.after.now in
    let n = c.loop-i.i in
    let now = c.loop-i.invariant in
    let goes = ap (λ l. ends_literal (get_or after n 0) (content_codes l)) (sym c.from-next.ensures) ∙ sym c.ends_literal.ensures ∙ c.if-ends_literal.false in
    let next = run_goes_on n after c.loop-i-test.true now.plain now.so_far goes in
    record { so_far = next.0; plain = next.1 }
