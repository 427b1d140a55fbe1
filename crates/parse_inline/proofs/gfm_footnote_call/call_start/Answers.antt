use Rattle.std.proofs.Common.{refl}
use Rattle.engine_events.specs.declared.event.Name.TheVariants as n
use Rattle.parse_inline.proofs.Calls.{on_ok_both}
use Rattle.parse_inline.proofs.Marks.{two_marks}
use Rattle.parse_inline.proofs.gfm_footnote_call.call_start.Goals as goal

pub returns-clause-written : goal.returns-clause-written
returns-clause-written g c =
    on_ok_both c.exit.result
    (λ stays written. λ text content stop st whole.
    two_marks text stop c.args.walk.now c.enter.new.self c.text.new.self c.text-2.new.self c.exit.new.self n.GfmFootnoteCallLabel n.LabelMarker n.GfmFootnoteCallMarker 91 94 content
    (record { no_quote = refl; no_data = refl; other = refl })
    (record { no_quote = refl; no_data = refl; other = refl; void = refl; may = refl; dark = refl })
    (record { no_quote = refl; no_data = refl; other = refl; void = refl; may = refl; dark = refl }) refl refl
    (c.in_ok-enter.ensures.stays, c.in_ok-enter.ensures.written) (c.in_ok-text.ensures.stays, c.in_ok-text.ensures.written)
    (c.in_ok-text-2.ensures.stays, c.in_ok-text-2.ensures.written) (stays, written) st whole)
    c.exit.ensures.stays c.exit.ensures.written
