use Rattle.std.proofs.Common.{false, sym, subst}
use Rattle.inline_text.specs.Mark.{IsStopWith}
use Rattle.inline_text.proofs.LiteralFronts.{next_alone}
use Rattle.inline_text.proofs.plain.first_stop.Goals as goal

pub returns-then-has_marks : goal.returns-then-has_marks
returns-then-has_marks c =
    subst (λ m. IsStopWith c.args.has_literals m c.args.stops c.args.bytes.now c.next_of_or_equals.result) (sym c.if-has_marks.true) c.next_of_or_equals.ensures

pub returns-then-has_literals : goal.returns-then-has_literals
returns-then-has_literals c =
    subst (λ m. IsStopWith c.args.has_literals m c.args.stops c.args.bytes.now c.next_of_or_letters.result) (sym c.if-has_marks.false)
    (subst (λ on. IsStopWith on false c.args.stops c.args.bytes.now c.next_of_or_letters.result) (sym c.if-has_literals.true) c.next_of_or_letters.ensures)

pub returns-else-has_literals : goal.returns-else-has_literals
returns-else-has_literals c =
    subst (λ m. IsStopWith c.args.has_literals m c.args.stops c.args.bytes.now c.next_of.result) (sym c.if-has_marks.false)
    (subst (λ on. IsStopWith on false c.args.stops c.args.bytes.now c.next_of.result) (sym c.if-has_literals.false)
    (next_alone c.args.stops c.args.bytes.now c.next_of.result c.next_of.ensures))
