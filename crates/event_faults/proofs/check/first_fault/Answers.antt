use Rattle.std.proofs.Common.{◌≡◌, ◌∙◌, ◌+◌, ◌-◌, ℕ, List, ◌∷◌, ◌++◌, length, refl, sym, ap, subst, zero-le, arith}
use Rattle.event_faults.proofs.Prelude.{Check, check_view, Event, fault_from, marked_from, TakesNone}
use Rattle.event_faults.proofs.Counts.{Counts}
use Rattle.event_faults.proofs.Marks.{marks_pass, marks_step}
use Rattle.event_faults.proofs.Passes.{names_of}
use Rattle.event_faults.proofs.Runs.{fault_more, count_more, pass_more, pass_count, spaces_more, pass_spaces, stands_first}
use Rattle.event_faults.proofs.check.first_fault.Goals as goal
use Rattle.event_faults.proofs.check.first_fault.Goals.{in-Some-split_first+else-pass, in_default-split_first}

pub loop-event-init : goal.loop-event-init
loop-event-init g c =
    let names = g.T.Tables.reference_of c.args.tables.now in
    let bytes = c.args.bytes.now in
    let events = c.args.events.now in
    let none : length events - length events ≡ 0 = omega arith in
    record {
      rest = ap (λ (z : ℕ). fault_from names bytes (check_view c.new-check.result) z events) none
          ∙ ap (λ (z : Check). fault_from names bytes z 0 events) c.new-check.ensures.start;
      bound = omega arith;
      counts = subst (λ (z : ℕ). Counts z (check_view c.new-check.result)) (sym none)
          (subst (Counts 0) (sym c.new-check.ensures.start) (record { inner = zero-le; outer = tt }));
      spaces = subst TakesNone (sym c.new-check.ensures.start) (record { inner = refl; outer = tt });
      marked = ap (λ (z : ℕ). c.args.marked.now.items ++ marked_from z events) none;
      stands = stands_first bytes c.new-check.result.spot c.new-check.result.known (ap (λ (z : Check). z.spot) c.new-check.ensures.start)
          c.new-check.ensures.index c.new-check.ensures.phase;
    }

pub loop-event-preserved-then-pass : goal.loop-event-preserved-then-pass
loop-event-preserved-then-pass g c =
    let names = g.T.Tables.reference_of c.args.tables.now in
    let bytes = c.args.bytes.now in
    let events = c.args.events.now in
    let left = c.loop-event.left.now in
    let enter = c.in-Some.event.now in
    let exit = c.in-Some-split_first.exit.now in
    let after = c.in-Some-split_first.after.now in
    let old = check_view c.loop-event.check in
    let new = check_view c.pass.new.self in
    let passed = c.pass.ensures.passed c.if-pass.true in
    let is : left ≡ enter ∷ exit ∷ after = c.in-Some.ensures.cases.0 ∙ ap (λ (z : List Event). enter ∷ z) c.in-Some-split_first.ensures.cases.0 in
    let size = ap (λ (z : List Event). length z) is in
    let bound = c.loop-event.invariant.bound in
    let two : length events - length after ≡ (length events - length left) + 2 = omega (arith, size, bound) in
    record {
      rest = pass_more names bytes after enter exit (length events - length left) (length events - length after) old new _ two passed
          (ap (λ (z : List Event). fault_from names bytes old (length events - length left) z) (sym is) ∙ c.loop-event.invariant.rest);
      bound = omega (arith, size, bound);
      counts = pass_count names bytes enter exit (length events - length left) (length events - length after) old new two passed c.loop-event.invariant.counts;
      spaces = pass_spaces names bytes enter exit old new passed c.loop-event.invariant.spaces;
      marked = marks_pass c.loop-event.marked.items _ enter exit after (length events - length left) (length events - length after) (c.pass.ensures.void c.if-pass.true)
          (names_of enter exit (c.pass.ensures.pair c.if-pass.true)) two (omega arith)
          (ap (λ (z : List Event). c.loop-event.marked.items ++ marked_from (length events - length left) z) (sym is) ∙ c.loop-event.invariant.marked);
      stands = c.pass.ensures.stands;
    }

pub loop-event-preserved : goal.loop-event-preserved
loop-event-preserved g c =
    let names = g.T.Tables.reference_of c.args.tables.now in
    let bytes = c.args.bytes.now in
    let events = c.args.events.now in
    let left = c.loop-event.left.now in
    let e = c.in-Some.event.now in
    let others = c.in-Some.others.now in
    let old = check_view c.match-split_first-2.check in
    let new = check_view c.step.new.self in
    let is : left ≡ e ∷ others = c.in-Some.ensures.cases.0 in
    let size = ap (λ (z : List Event). length z) is in
    let bound = c.loop-event.invariant.bound in
    let one : length events - length others ≡ (length events - length left) + 1 = omega (arith, size, bound) in
    let same : c.match-split_first-2.check ≡ c.loop-event.check = elim c.match-split_first-2.branch [
      | in-Some-split_first+else-pass w ↦ w.check-is ∙ w.pass.ensures.unchanged w.if-pass.false
      | in_default-split_first w ↦ w.check-is
    ] in
    record {
      rest = fault_more names bytes others e (length events - length left) (length events - length others) old new _ c.in_ok-kind.field-0 one c.in_default-2.is
          c.in_ok-kind.ensures.step
          (ap (λ z. fault_from names bytes (check_view z) (length events - length left) (e ∷ others)) same
          ∙ (ap (λ (z : List Event). fault_from names bytes (check_view c.loop-event.check) (length events - length left) z) (sym is)
          ∙ c.loop-event.invariant.rest));
      bound = omega (arith, size, bound);
      counts = count_more names bytes e (length events - length left) (length events - length others) old new c.in_ok-kind.field-0 one c.in_default-2.is
          c.in_ok-kind.ensures.step (subst (λ z. Counts (length events - length left) (check_view z)) (sym same) c.loop-event.invariant.counts);
      spaces = spaces_more names bytes e old new c.in_ok-kind.field-0 c.in_default-2.is c.in_ok-kind.ensures.step
          (subst (λ z. TakesNone (check_view z)) (sym same) c.loop-event.invariant.spaces);
      marked = marks_step c.loop-event.marked.items c.note.new.marked.items _ e others (length events - length left) (length events - length others)
          c.in_ok-note.ensures one
          (ap (λ (z : List Event). c.loop-event.marked.items ++ marked_from (length events - length left) z) (sym is) ∙ c.loop-event.invariant.marked);
      stands = c.in_ok-kind.ensures.stands c.in_default-2.is;
    }
