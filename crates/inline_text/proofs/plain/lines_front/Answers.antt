use Rattle.std.proofs.Common.{◌+◌, arith, subst}
use Rattle.inline_text.specs.Fronts.{AreLines}
use Rattle.inline_text.proofs.Lines.{last_line, line_fits, more_lines, next_soft, whole_lines, with_last, IsLast}
use Rattle.inline_text.proofs.plain.lines_front.Goals as goal

pub returns-then-not-is_soft : goal.returns-then-not-is_soft
returns-then-not-is_soft c =
    let on = c.args.has_literals in
    let m = c.args.has_marks in
    let bytes = c.args.bytes.now in
    let at = c.loop-at.at in
    let line = c.from-line.result.now in
    let size = c.line_size.result in
    with_last on m bytes at size c.loop-at.invariant.0 c.loop-at.invariant.1
    (subst (λ xs. IsLast on m xs size) c.from-line.ensures
    (last_line on m line (line_fits bytes line at c.from-line.ensures c.type_inv.bytes) c.first_stop-stop.result c.first_stop-stop.ensures size
    c.line_size.ensures))

pub loop-at-preserved : goal.loop-at-preserved
loop-at-preserved c =
    let on = c.args.has_literals in
    let m = c.args.has_marks in
    let bytes = c.args.bytes.now in
    let at = c.loop-at.at in
    let line = c.from-line.result.now in
    let stop = c.first_stop-stop.result in (
      omega (arith, c.loop-at.invariant.0),
      more_lines on m bytes at (stop + 1) (at + (stop + 1)) (omega arith) c.loop-at.invariant.1
          (subst (λ xs. AreLines on m xs (stop + 1)) c.from-line.ensures
          (next_soft on m line (line_fits bytes line at c.from-line.ensures c.type_inv.bytes) stop c.first_stop-stop.ensures
          (c.is_soft.ensures c.if-not-is_soft.false))),
    )

pub returns : goal.returns
returns c = whole_lines c.args.has_literals c.args.has_marks c.args.bytes.now c.loop-at.at (omega (arith, c.loop-at-test.false)) c.loop-at.invariant.1
