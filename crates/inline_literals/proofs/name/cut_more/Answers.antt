use Rattle.std.proofs.Common.{arith}
use Rattle.inline_literals.proofs.Names.{more_found, none_for_size, none_for_end, none_for_other}
use Rattle.inline_literals.proofs.name.cut_more.Goals.{else-size-gt0-via-then-size-gt0+then-size-before+else-before-size-eq38}
use Rattle.inline_literals.proofs.name.cut_more.Goals.{else-size-gt0-via-then-size-gt0+else-size-before, else-size-gt0-via-else-size-gt0}
use Rattle.inline_literals.proofs.name.cut_more.Goals as goal

pub returns-then-before-size-eq38-clause-size : goal.returns-then-before-size-eq38-clause-size
returns-then-before-size-eq38-clause-size c =
    more_found c.args.byte c.letters_and_digits-size.result c.args.before.now c.if-byte-ne59.false c.letters_and_digits-size.ensures.size
    c.if-size-gt0.true c.if-size-before.true c.if-before-size-eq38.true

pub returns-else-size-gt0-clause-size : goal.returns-else-size-gt0-clause-size
returns-else-size-gt0-clause-size c =
    let size = c.letters_and_digits-size.result in
    let before = c.args.before.now in
    elim c.else-size-gt0.branch [
      | else-size-gt0-via-then-size-gt0+then-size-before+else-before-size-eq38 w ↦
          none_for_other c.args.byte size before c.if-byte-ne59.false c.letters_and_digits-size.ensures.size w.if-size-before.true w.if-before-size-eq38.false
      | else-size-gt0-via-then-size-gt0+else-size-before w ↦
          none_for_end c.args.byte size before c.if-byte-ne59.false c.letters_and_digits-size.ensures.size (omega (arith, w.if-size-before.false))
      | else-size-gt0-via-else-size-gt0 w ↦
          none_for_size c.args.byte size before c.if-byte-ne59.false c.letters_and_digits-size.ensures.size (omega (arith, w.if-size-gt0.false))
    ]
