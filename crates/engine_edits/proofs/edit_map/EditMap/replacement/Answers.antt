use Rattle.std.proofs.Common.{◌++◌, ◌≤◌, ◌∙◌, ap, arith, length, List, rules}
use Rattle.engine_events.specs.declared.event.Event.{Event}
use Rattle.engine_edits.specs.Edits.{edits_of}
use Rattle.engine_edits.proofs.Making.{replacing_none, ends_within, fitting, making, done}
use Rattle.engine_edits.proofs.edit_map.EditMap.replacement.Goals as goal

pub edits-init : goal.edits-init
edits-init g c =
    replacing_none c.args.places.now c.args.events.now c.in_ok-all.all.items c.into_iter-at-iterator.result c.args.self.now.edits.entries
    c.into_iter-at-iterator.ensures.into_iter_gives.0 c.in_ok-all.ensures.items c.requires

pub offset_bounds-events-from : goal.offset_bounds-events-from
offset_bounds-events-from g c =
    let h = fitting c.args.places.now c.args.events.now c.edits.from c.edits.all.items c.edits.at-iterator c.next.new.self (
      c.in-Some.at.now,
      c.in-Some.edit.now,
    ) (edits_of c.args.self.now) c.in-Some.ensures.steps c.edits.invariant in
    let within : c.edits.from ≤ length c.args.events.now = omega (arith, h.low, h.high) in
    search (rules, within)

pub slice_bounds-push_with_new_links-count : goal.slice_bounds-push_with_new_links-count
slice_bounds-push_with_new_links-count g c =
    let h = fitting c.args.places.now c.args.events.now c.edits.from c.edits.all.items c.edits.at-iterator c.next.new.self (
      c.in-Some.at.now,
      c.in-Some.edit.now,
    ) (edits_of c.args.self.now) c.in-Some.ensures.steps c.edits.invariant in
    h.low

pub slice_bounds-push_with_new_links-start : goal.slice_bounds-push_with_new_links-start
slice_bounds-push_with_new_links-start g c =
    let h = fitting c.args.places.now c.args.events.now c.edits.from c.edits.all.items c.edits.at-iterator c.next.new.self (
      c.in-Some.at.now,
      c.in-Some.edit.now,
    ) (edits_of c.args.self.now) c.in-Some.ensures.steps c.edits.invariant in
    let low : c.edits.from ≤ c.in-Some.at.now = h.low in
    search (rules, low)

pub slice_bounds-push_with_new_links-end : goal.slice_bounds-push_with_new_links-end
slice_bounds-push_with_new_links-end g c =
    let h = fitting c.args.places.now c.args.events.now c.edits.from c.edits.all.items c.edits.at-iterator c.next.new.self (
      c.in-Some.at.now,
      c.in-Some.edit.now,
    ) (edits_of c.args.self.now) c.in-Some.ensures.steps c.edits.invariant in
    let within : c.in-Some.at.now ≤ length c.args.events.now = omega (arith, h.high) in
    search (rules, within)

pub overflow_add-from : goal.overflow_add-from
overflow_add-from g c =
    let h = fitting c.args.places.now c.args.events.now c.edits.from c.edits.all.items c.edits.at-iterator c.next.new.self (
      c.in-Some.at.now,
      c.in-Some.edit.now,
    ) (edits_of c.args.self.now) c.in-Some.ensures.steps c.edits.invariant in
    omega (arith, h.high)

pub edits-preserved : goal.edits-preserved
edits-preserved g c =
    making c.args.places.now c.args.events.now c.edits.from c.edits.all.items c.push_with_new_links.new.all.items c.extend_from_slice.new.self.items
    c.edits.at-iterator c.next.new.self (c.in-Some.at.now, c.in-Some.edit.now) (edits_of c.args.self.now) c.in-Some.ensures.steps c.edits.invariant
    c.in_ok-push_with_new_links.ensures (c.in_ok-extend_from_slice.ensures.items ∙ ap
    (λ (xs : List Event). c.push_with_new_links.new.all.items ++ xs) c.deref.ensures.value)

pub offset_bounds-events-from-2 : goal.offset_bounds-events-from-2
offset_bounds-events-from-2 g c =
    let within : c.edits.from ≤ length c.args.events.now = ends_within c.args.places.now c.args.events.now c.edits.from c.edits.all.items c.edits.at-iterator
    (edits_of c.args.self.now) c.in-None.ensures.steps.0 c.edits.invariant in
    search (rules, within)

pub slice_bounds-push_with_new_links-count-2 : goal.slice_bounds-push_with_new_links-count-2
slice_bounds-push_with_new_links-count-2 g c = ends_within c.args.places.now c.args.events.now c.edits.from c.edits.all.items c.edits.at-iterator
    (edits_of c.args.self.now) c.in-None.ensures.steps.0 c.edits.invariant

pub slice_bounds-push_with_new_links-start-2 : goal.slice_bounds-push_with_new_links-start-2
slice_bounds-push_with_new_links-start-2 g c =
    let within : c.edits.from ≤ length c.args.events.now = ends_within c.args.places.now c.args.events.now c.edits.from c.edits.all.items c.edits.at-iterator
    (edits_of c.args.self.now) c.in-None.ensures.steps.0 c.edits.invariant in
    search (rules, within)

pub returns : goal.returns
returns g c = done c.args.places.now c.args.events.now c.edits.from c.edits.all.items c.push_with_new_links-2.new.all.items c.edits.at-iterator
    (edits_of c.args.self.now) c.in-None.ensures.steps.0 c.edits.invariant c.in_ok-push_with_new_links-2.ensures
