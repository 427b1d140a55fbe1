use Rattle.std.proofs.Common.{refl, sym, ◌∙◌, arith}
use Rattle.std.specs.Prelude.{codes}
use Rattle.inline_literals.proofs.Starts.{starts}
use Rattle.inline_literals.proofs.gfm_autolink_literal.start_at.Goals as goal

pub returns-then-begins_caselessly-2-clause-front : goal.returns-then-begins_caselessly-2-clause-front
returns-then-begins_caselessly-2-clause-front c =
    starts (codes "http://") c.args.bytes.now refl (omega arith) (sym c.begins_caselessly-2.ensures.value ∙ c.if-begins_caselessly-2.true)

pub returns-then-begins_caselessly-3-clause-front : goal.returns-then-begins_caselessly-3-clause-front
returns-then-begins_caselessly-3-clause-front c =
    starts (codes "https://") c.args.bytes.now refl (omega arith) (sym c.begins_caselessly-3.ensures.value ∙ c.if-begins_caselessly-3.true)
