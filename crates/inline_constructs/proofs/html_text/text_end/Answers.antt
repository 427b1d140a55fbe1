use Rattle.std.proofs.Common.{◌∙◌, sym, ap, arith}
use Rattle.inline_constructs.proofs.Prelude.{begins_with}
use Rattle.inline_constructs.proofs.HtmlTextLemmas.{closed_at, first_later}
use Rattle.inline_constructs.proofs.html_text.text_end.Goals as goal

pub returns-then-starts_with-clause-place : goal.returns-then-starts_with-clause-place
returns-then-starts_with-clause-place c =
    let there = ap (begins_with c.args.text.now) (sym c.from.ensures) ∙ sym c.starts_with.ensures.value ∙ c.if-starts_with.true in
    closed_at c.args.text.now c.args.bytes.now c.loop-i.i (omega arith) c.requires.text there

pub loop-i-preserved : goal.loop-i-preserved
loop-i-preserved c =
    let other = ap (begins_with c.args.text.now) (sym c.from.ensures) ∙ sym c.starts_with.ensures.value ∙ c.if-starts_with.false in
    first_later c.args.text.now c.args.bytes.now c.loop-i.i (omega arith) other ∙ c.loop-i.invariant
