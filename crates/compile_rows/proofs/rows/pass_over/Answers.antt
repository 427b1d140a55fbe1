use Rattle.std.proofs.Common.{◌∙◌, sym, arith}
use Rattle.compile_rows.proofs.PassedOver.{reads_same, enter_reads}
use Rattle.compile_rows.proofs.rows.pass_over.Goals as goal

pub loop-event-init : goal.loop-event-init
loop-event-init c = reads_same c.args.skipped c.args.events.now

pub loop-event-preserved-else-is_counted : goal.loop-event-preserved-else-is_counted
loop-event-preserved-else-is_counted c =
    enter_reads c.loop-event.depth c.loop-event.rest.now c.in-Some.event.now c.in-Some.after.now c.args.skipped c.args.events.now
    c.in-Some.ensures.cases.0 (omega (arith, c.if-depth-eq0.false)) c.loop-event.invariant c.in-Enter.is
    (sym c.is_counted.ensures ∙ c.if-is_counted.false)
