use Rattle.std.proofs.Common.{subst}
use Rattle.parse_inline.proofs.Prelude.{SpanNames}
use Rattle.parse_inline.proofs.Calls.{DoesExit, DoesText, on_ok_both, span_left}
use Rattle.parse_inline.proofs.span.leave_span.Goals as goal

pub returns-clause-written : goal.returns-clause-written
returns-clause-written g c =
    let are = c.span_names-names.ensures in
    on_ok_both c.exit-2.result
    (λ stays written. λ text front content stop is dark may st whole.
    span_left text stop c.args.walk.now c.exit.new.self c.text.new.self c.exit-2.new.self c.args.span c.args.size front content is dark may
    (subst (λ (names : SpanNames). DoesExit names.text c.args.walk.now c.exit.new.self) are (c.in_ok-exit.ensures.stays, c.in_ok-exit.ensures.written))
    (subst (λ (names : SpanNames). DoesText names.sequence c.args.size c.exit.new.self c.text.new.self) are
    (c.in_ok-text.ensures.stays, c.in_ok-text.ensures.written))
    (subst (λ (names : SpanNames). DoesExit names.event c.text.new.self c.exit-2.new.self) are (stays, written)) st whole)
    c.exit-2.ensures.stays c.exit-2.ensures.written
