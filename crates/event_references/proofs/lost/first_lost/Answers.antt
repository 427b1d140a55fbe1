use Rattle.std.proofs.Common.{◌∙◌, [], List, ℕ, length, sym, ap, subst, get_or, refl}
use Rattle.event_references.proofs.Prelude.{is_listed, map, media_names, media_view, no_event, reverse, texts_of}
use Rattle.engine_events.specs.declared.event.Kind.TheVariants.{Enter}
use Rattle.engine_events.specs.declared.event.Name.TheVariants as names
use Rattle.event_references.specs.Lost as lost
use Rattle.event_references.specs.declared.lost.Media.{Media}
use Rattle.event_references.proofs.Loops.{run_marks, all_marks, AreBelow, all_below, enter_on, first_mark}
use Rattle.event_references.proofs.lost.first_lost.Goals as goal

pub loop-mark-init : goal.loop-mark-init
loop-mark-init g c =
    let bytes = c.args.bytes.now in
    let events = c.args.events.now in
    let links = texts_of bytes names.DefinitionLabelString events in
    let footnotes = texts_of bytes names.GfmFootnoteDefinitionLabelString events in
    let v = media_view bytes events in
    let marked = c.args.marked.now in
    record {
      rest = ap (λ (z : lost.Media). run_marks bytes links footnotes events z (map v (reverse c.new-2.result.items)) marked) (c.new.ensures bytes events)
          ∙ (ap (λ (z : List Media). run_marks bytes links footnotes events lost.new_media (map v (reverse z)) marked) c.new-2.ensures.items
          ∙ (ap (λ (z : List ℕ). run_marks bytes links footnotes events lost.new_media [] z) c.requires
          ∙ sym (all_marks bytes links footnotes events lost.new_media [])));
      below = subst (AreBelow bytes links footnotes events (length events)) (sym c.requires) (all_below bytes links footnotes events);
      links = tt;
      footnotes = tt;
    }

pub loop-mark-preserved-in_ok-enter-in-Enter : goal.loop-mark-preserved-in_ok-enter-in-Enter
loop-mark-preserved-in_ok-enter-in-Enter g c =
    let bytes = c.args.bytes.now in
    let events = c.args.events.now in
    let links = texts_of bytes names.DefinitionLabelString events in
    let footnotes = texts_of bytes names.GfmFootnoteDefinitionLabelString events in
    let v = media_view bytes events in
    let i = c.in-Some.mark.now in
    let is = c.in-Some.others.now in
    let old = c.loop-mark.open in
    let new = c.enter.new.self in
    let below = subst (AreBelow bytes links footnotes events (length events)) c.in-Some.ensures.cases.0 c.loop-mark.invariant.below in
    record {
      rest = enter_on bytes links footnotes events v (is_listed media_names (get_or events i no_event).name) i old.inner new.inner old.outer.items new.outer.items
          (λ next others. run_marks bytes links footnotes events next others is) refl below.0
          (c.in_ok-enter-in-Enter.ensures.media bytes events) (c.in_ok-enter-in-Enter.ensures.other bytes events)
          ∙ first_mark bytes links footnotes events v Enter i is c.loop-mark.left.now (v old.inner) (map v (reverse old.outer.items)) _
          c.in-Some.ensures.cases.0 c.in-Enter.is c.loop-mark.invariant.rest;
      below = below.1;
      links = c.loop-mark.invariant.links;
      footnotes = c.loop-mark.invariant.footnotes;
    }
