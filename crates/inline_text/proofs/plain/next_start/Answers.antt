use Rattle.std.proofs.Common.{refl, sym, ◌∙◌, arith, subst}
use Rattle.inline_text.specs.Plain.{IsStart}
use Rattle.inline_text.proofs.LiteralFronts as fronts
use Rattle.inline_text.proofs.plain.next_start.Goals as goal
use Rattle.inline_text.proofs.plain.next_start.Goals.{else-stop-bytes-via-then-stop-bytes+else-goes_on, else-stop-bytes-via-else-stop-bytes}

pub returns-then-goes_on-clause-start : goal.returns-then-goes_on-clause-start
returns-then-goes_on-clause-start c =
    fronts.later_start c.args.has_literals c.args.has_marks c.args.bytes.now c.type_inv.bytes c.first_stop-stop.result c.first_stop-stop.ensures c.first_start.result _ refl
    (subst (λ rest. IsStart c.args.has_literals c.args.has_marks rest c.first_start.result) c.from.ensures c.first_start.ensures)

pub returns-clause-start : goal.returns-clause-start
returns-clause-start c =
    fronts.next_start c.args.has_literals c.args.has_marks c.args.bytes.now c.type_inv.bytes c.first_stop-stop.result c.first_stop-stop.ensures
    (λ lt. elim c.else-stop-bytes.branch [
      | else-stop-bytes-via-then-stop-bytes+else-goes_on w ↦ sym w.goes_on.ensures ∙ w.if-goes_on.false
      | else-stop-bytes-via-else-stop-bytes w ↦ absurd (omega (arith, w.if-stop-bytes.false, lt))
    ])

pub returns-clause-verbatim : goal.returns-clause-verbatim
returns-clause-verbatim c is =
    fronts.next_verbatim c.args.has_literals c.args.has_marks c.args.bytes.now c.type_inv.bytes c.first_stop-stop.result c.first_stop-stop.ensures
