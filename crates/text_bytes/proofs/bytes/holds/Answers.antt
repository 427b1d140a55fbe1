use Rattle.std.proofs.Common.{sym, ◌∙◌, arith}
use Rattle.definition_text.specs.Bytes.{begins_with}
use Rattle.text_bytes.proofs.Somewhere.{somewhere_here, somewhere_later, somewhere_over}
use Rattle.text_bytes.proofs.bytes.holds.Goals as goal

pub returns-then-starts_with : goal.returns-then-starts_with
returns-then-starts_with c =
    sym (somewhere_here (begins_with c.args.text.now) c.args.bytes.now c.loop-i.i (omega arith) (sym c.starts_with.ensures.value ∙ c.if-starts_with.true))
    ∙ c.loop-i.invariant

pub loop-i-preserved : goal.loop-i-preserved
loop-i-preserved c =
    somewhere_later (begins_with c.args.text.now) c.args.bytes.now c.loop-i.i (omega arith) (sym c.starts_with.ensures.value ∙ c.if-starts_with.false)
    ∙ c.loop-i.invariant

pub returns : goal.returns
returns c = sym (somewhere_over (begins_with c.args.text.now) c.args.bytes.now c.loop-i.i (omega arith)) ∙ c.loop-i.invariant
