use Rattle.std.proofs.Common.{◌∙◌, sym, ap, get_or, arith, ◌&&◌, Bool}
use Rattle.event_references.proofs.Prelude.{no_event, same_name}
use Rattle.event_references.proofs.Loops.{front_same, front_more, text_read}
use Rattle.event_references.proofs.labels.label_table.Goals as goal
use Rattle.event_references.proofs.labels.label_table.Goals.{then-is_enter+then-eq+in_ok-push_text+in_ok-insert, else-is_enter, else-is_enter-via-then-is_enter+else-eq, else-is_enter-via-else-is_enter}

pub loop-index-preserved : goal.loop-index-preserved
loop-index-preserved g c =
    let bytes = c.args.bytes.now in
    let name = c.args.name in
    let events = c.args.events.now in
    let i = c.loop-index.index in
    let e = get_or events i no_event in
    let bound = c.loop-index.invariant.counted in
    let before = c.loop-index.invariant.labels in
    elim c.if-is_enter.branch [
      | then-is_enter+then-eq+in_ok-push_text+in_ok-insert w ↦ rw (w.table-is, w.count-is)
          (record {
            counted = omega (arith, bound);
            labels = front_more bytes name events i c.loop-index.table _ w.insert.result _ c.loop-index.count _ c.loop-index-test.true
                (ap (λ (t : Bool). t && same_name e.name name) (sym c.is_enter.ensures ∙ w.if-is_enter.true) ∙ (sym w.eq.ensures ∙ w.if-eq.true))
                (w.deref.ensures.value ∙ w.in_ok-push_text.ensures
                ∙ text_read bytes name events i w.clear.new.self.items w.spot_of.result w.clear.ensures.items w.spot_of.ensures) w.in_ok-insert.was w.insert.ensures.added before;
          })
      | else-is_enter w ↦ rw (w.table-is, w.count-is)
          (record {
            counted = omega (arith, bound);
            labels = elim w.else-is_enter.branch [
              | else-is_enter-via-then-is_enter+else-eq v ↦ front_same bytes name events i c.loop-index.table c.loop-index.count c.loop-index-test.true
                  (ap (λ (t : Bool). t && same_name e.name name) (sym c.is_enter.ensures ∙ v.if-is_enter.true) ∙ (sym v.eq.ensures ∙ v.if-eq.false)) before
              | else-is_enter-via-else-is_enter v ↦ front_same bytes name events i c.loop-index.table c.loop-index.count c.loop-index-test.true
                  (ap (λ (t : Bool). t && same_name e.name name) (sym c.is_enter.ensures ∙ v.if-is_enter.false)) before
            ];
          })
    ]
