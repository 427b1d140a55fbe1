use Rattle.std.proofs.Common.{◌≡◌, ◌∙◌, ◌+◌, ◌-◌, ◌++◌, ℕ, List, drop, length, map, sym, ap, subst, string_bytes, arith}
use Rattle.compile_strings.proofs.Prelude.{AreHeld, drop_all, HaveTargets, leads_to, linked_at, linked_by, reverse, Spelled, SpelledTarget, target_view}
use Rattle.compile_strings.proofs.Prelude.{targets_by}
use Rattle.compile_strings.proofs.HeldLaw.{held_at_end}
use Rattle.compile_strings.proofs.spelled.SpelledStrings.find_targets.Goals as goal

pub loop-end-init : goal.loop-end-init
loop-end-init g c =
    let names = g.T.Tables.reference_of c.args.texts.now.tables.now in
    let bytes = c.args.texts.now.bytes.now in
    let events = c.args.events.now in
    let opened = c.new-open.result in
    let last = c.last_noted-end.ensures in
    record {
      held = record { each = last.held opened.inner (reverse opened.outer.items) (held_at_end events opened c.new-open.ensures.inner c.new-open.ensures.outer) };
      targets =
          λ ds at labels fits none.
          let spelled = targets_by names bytes (leads_to (linked_by ds)) in
          record {
            each =
                λ later.
                ap (λ (z : List SpelledTarget). map (target_view (linked_at ds) (string_bytes c.args.self.now.text ++ later)) (reverse z)) none
                ∙ sym (last.targets names bytes (leads_to (linked_by ds)) ∙ ap spelled (drop_all (length events) events (omega arith)));
          };
      raws = λ ds at raws labels fits have. have;
      within = omega (arith, last.within);
    }

pub loop-end-preserved : goal.loop-end-preserved
loop-end-preserved g c =
    let names = g.T.Tables.reference_of c.args.texts.now.tables.now in
    let bytes = c.args.texts.now.bytes.now in
    let events = c.args.events.now in
    let k = c.loop-end.invariant in
    let index = c.loop-end.end - 1 in
    let back : index + 1 ≡ c.loop-end.end = omega (arith, c.loop-end-test.true) in
    let held = subst (λ (z : ℕ). AreHeld events (drop z events) c.loop-end.«open») (sym back) k.held in
    let opened = c.find_target.new.«open» in
    let last = c.last_noted-end-in-loop-end.ensures in
    record {
      held = record { each = last.held opened.inner (reverse opened.outer.items) (c.in_ok-find_target.ensures.held held).each };
      targets =
          λ ds at labels fits none.
          let spelled = targets_by names bytes (leads_to (linked_by ds)) in
          subst (λ (z : List Spelled). HaveTargets (linked_at ds) c.find_target.new.self z) (sym (last.targets names bytes (leads_to (linked_by ds))))
          (c.in_ok-find_target.ensures.targets ds at labels fits held
          (subst (λ (z : ℕ). HaveTargets (linked_at ds) c.loop-end.self (spelled (drop z events))) (sym back) (k.targets ds at labels fits none)));
      raws = λ ds at raws labels fits have. c.in_ok-find_target.ensures.raws ds at raws labels fits held (k.raws ds at raws labels fits have);
      within = omega (arith, last.within, k.within, c.loop-end-test.true);
    }

pub returns-clause-targets : goal.returns-clause-targets
returns-clause-targets g c = λ ds at labels fits none.
    let spelled = targets_by (g.T.Tables.reference_of c.args.texts.now.tables.now) c.args.texts.now.bytes.now (leads_to (linked_by ds)) in
    let start : c.loop-end.end ≡ 0 = omega (arith, c.loop-end-test.false) in
    subst (λ (z : ℕ). HaveTargets (linked_at ds) c.loop-end.self (spelled (drop z c.args.events.now))) start
    (c.loop-end.invariant.targets ds at labels fits none)
