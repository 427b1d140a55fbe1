use Rattle.parse_inline.proofs.Calls.{label_ended, on_ok_both}
use Rattle.parse_inline.proofs.label.label_end.Goals as goal

pub returns-clause-written : goal.returns-clause-written
returns-clause-written g c =
    on_ok_both c.exit-2.result
    (λ stays written. λ text content stop st whole.
    label_ended text stop c.args.walk.now c.exit.new.self c.end_mark.new.walk c.exit-2.new.self content
    (c.in_ok-exit.ensures.stays, c.in_ok-exit.ensures.written)
    (c.in_ok-end_mark.ensures.written text content stop) (stays, written) st whole)
    c.exit-2.ensures.stays c.exit-2.ensures.written
