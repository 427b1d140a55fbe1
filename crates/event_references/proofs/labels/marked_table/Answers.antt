use Rattle.std.proofs.Common.{◌∙◌, [], List, length, sym, ap, subst, refl, arith, get_or, ◌&&◌, Bool}
use Rattle.event_references.proofs.Prelude.{no_event, same_name}
use Rattle.event_references.proofs.Loops.{AreBelow, all_below, all_texts, marked_more, marked_texts, text_read}
use Rattle.event_references.proofs.labels.marked_table.Goals as goal

pub loop-mark-init : goal.loop-mark-init
loop-mark-init g c =
    let bytes = c.args.bytes.now in
    let name = c.args.name in
    let events = c.args.events.now in
    record {
      counted = omega arith;
      below = subst (AreBelow bytes [] [] events (length events)) (sym c.requires.marked) (all_below bytes [] [] events);
      labels = ([], c.in_ok-table.ensures, refl, ap (marked_texts bytes name events) c.requires.marked ∙ sym (all_texts bytes name events c.requires.name));
    }

pub loop-mark-preserved-in_ok-insert : goal.loop-mark-preserved-in_ok-insert
loop-mark-preserved-in_ok-insert g c =
    let bytes = c.args.bytes.now in
    let name = c.args.name in
    let events = c.args.events.now in
    let i = c.in-Some.mark.now in
    let is = c.in-Some.others.now in
    let left = c.in-Some.ensures.cases.0 in
    let e = get_or events i no_event in
    let size = ap length left in
    let bound = c.loop-mark.invariant.counted in
    let below = subst (AreBelow bytes [] [] events (length events)) left c.loop-mark.invariant.below in
    record {
      counted = omega (arith, size, bound);
      below = below.1;
      labels = marked_more bytes name events c.loop-mark.left.now is i c.loop-mark.table _ c.insert.result _ c.loop-mark.count _ left
          (ap (λ (t : Bool). t && same_name e.name name) (sym c.is_enter.ensures ∙ c.if-is_enter.true) ∙ (sym c.eq.ensures ∙ c.if-eq.true))
          (c.deref.ensures.value ∙ c.in_ok-push_text.ensures
          ∙ text_read bytes name events i c.clear.new.self.items c.spot_of.result c.clear.ensures.items c.spot_of.ensures)
          c.in_ok-insert.was c.insert.ensures.added c.loop-mark.invariant.labels;
    }
