use Rattle.std.proofs.Common.{◌∙◌, arith, refl}
use Rattle.engine_edits.specs.Edits.{edits_of}
use Rattle.engine_edits.proofs.Steps.{bounds, placing_none, placing_on, placing_rest}
use Rattle.engine_edits.proofs.edit_map.EditMap.places.Goals as goal

pub edits-init : goal.edits-init
edits-init g c =
    placing_none c.args.count c.in_ok-places.places.items c.into_iter-at-iterator.result c.args.self.now.edits.entries
    c.into_iter-at-iterator.ensures.into_iter_gives.0 c.in_ok-places.ensures.items c.requires.ordered

pub overflow_sub-at : goal.overflow_sub-at
overflow_sub-at g c =
    let h = bounds c.edits.from c.edits.to c.args.count c.edits.places.items c.edits.at-iterator c.next.new.self (
      c.in-Some.at.now,
      c.in-Some.edit.now,
    ) (edits_of c.args.self.now) c.in-Some.ensures.steps c.edits.invariant c.requires.fits in
    h.low

pub push_places_from-requires : goal.push_places_from-requires
push_places_from-requires g c =
    let h = bounds c.edits.from c.edits.to c.args.count c.edits.places.items c.edits.at-iterator c.next.new.self (
      c.in-Some.at.now,
      c.in-Some.edit.now,
    ) (edits_of c.args.self.now) c.in-Some.ensures.steps c.edits.invariant c.requires.fits in
    omega (arith, h.low, h.high, h.total)

pub overflow_sub-to : goal.overflow_sub-to
overflow_sub-to g c =
    let h = bounds c.edits.from c.edits.to c.args.count c.edits.places.items c.edits.at-iterator c.next.new.self (
      c.in-Some.at.now,
      c.in-Some.edit.now,
    ) (edits_of c.args.self.now) c.in-Some.ensures.steps c.edits.invariant c.requires.fits in
    h.low

pub overflow_add-to : goal.overflow_add-to
overflow_add-to g c =
    let h = bounds c.edits.from c.edits.to c.args.count c.edits.places.items c.edits.at-iterator c.next.new.self (
      c.in-Some.at.now,
      c.in-Some.edit.now,
    ) (edits_of c.args.self.now) c.in-Some.ensures.steps c.edits.invariant c.requires.fits in
    omega (arith, h.low, h.high, h.total)

pub overflow_add-to-in-edits : goal.overflow_add-to-in-edits
overflow_add-to-in-edits g c =
    let h = bounds c.edits.from c.edits.to c.args.count c.edits.places.items c.edits.at-iterator c.next.new.self (
      c.in-Some.at.now,
      c.in-Some.edit.now,
    ) (edits_of c.args.self.now) c.in-Some.ensures.steps c.edits.invariant c.requires.fits in
    omega (arith, h.low, h.high, h.total)

pub overflow_add-from : goal.overflow_add-from
overflow_add-from g c =
    let h = bounds c.edits.from c.edits.to c.args.count c.edits.places.items c.edits.at-iterator c.next.new.self (
      c.in-Some.at.now,
      c.in-Some.edit.now,
    ) (edits_of c.args.self.now) c.in-Some.ensures.steps c.edits.invariant c.requires.fits in
    omega (arith, h.low, h.high, h.total)

pub edits-preserved : goal.edits-preserved
edits-preserved g c =
    placing_on c.edits.from c.edits.to c.args.count c.len.result _ c.edits.places.items c.push_places_from.new.places.items c.push_no_places.new.places.items
    c.edits.at-iterator c.next.new.self (
      c.in-Some.at.now,
      c.in-Some.edit.now,
    ) (edits_of c.args.self.now) c.in-Some.ensures.steps c.edits.invariant (c.len.ensures ∙ c.in-Some.edit.now.add.ok.0) refl c.in_ok-push_places_from.ensures
    c.in_ok-push_no_places.ensures

pub overflow_sub-count : goal.overflow_sub-count
overflow_sub-count g c =
    let h =
    placing_rest c.edits.from c.edits.to c.args.count c.edits.places.items c.edits.at-iterator (edits_of c.args.self.now) c.in-None.ensures.steps.0
    c.edits.invariant c.requires.fits in
    h.low

pub push_places_from-requires-2 : goal.push_places_from-requires-2
push_places_from-requires-2 g c =
    let h =
    placing_rest c.edits.from c.edits.to c.args.count c.edits.places.items c.edits.at-iterator (edits_of c.args.self.now) c.in-None.ensures.steps.0
    c.edits.invariant c.requires.fits in
    h.total

pub returns : goal.returns
returns g c =
    let h =
    placing_rest c.edits.from c.edits.to c.args.count c.edits.places.items c.edits.at-iterator (edits_of c.args.self.now) c.in-None.ensures.steps.0
    c.edits.invariant c.requires.fits in
    c.in_ok-push_places_from-2.ensures ∙ h.whole
