-- How many turns are enough: twice the rank, and one.
use Rattle.std.proofs.Common.{◌≡◌, ℕ, suc, ◌+◌, ◌-◌, ◌*◌, ◌<◌, ◌≤◌, ◌∙◌, ◌++◌, map, Bool, true, false, cond, List, [], ◌∷◌, Option, Some, refl, sym, ap, subst}
use Rattle.std.proofs.Common.{arith, append-nil, append_assoc}
use Rattle.markdown_engine.proofs.Prelude.{after_success, AreNested, Attempt, Config, continuation, end_state, ends-nok, ends-ok, feed, first, Frame, hand_on}
use Rattle.markdown_engine.proofs.Prelude.{HoldsAt, IsFed, LawfulAt, mark, Name, next, Outcome, Point, RanksAt, reading, retry, Runs, second, State}
use Rattle.markdown_engine.proofs.Prelude.{state_after, Steps, Text, Unwinds}
use Rattle.engine_states.specs.declared.state.State.TheVariants as states
use Rattle.markdown_engine.specs.Evaluation.{after_mark, after_stack, evaluate}
use Rattle.markdown_engine.proofs.Evaluation.{more_turns}
use Rattle.markdown_engine.proofs.Outcomes.{front_nested, keeps, restored}

module _ {M : Type 0} (size : ℕ) (valid : HoldsAt M) (step : Steps M) (rank : RanksAt M) (lawful : LawfulAt size valid step rank) (text : Text)
    (fed : (p : Point) → IsFed size p (text.start p) (text.byte (text.start p))) where
  -- so many turns are enough, and leave what holds with what is left of the rank
  record Enough (c d : Config M) (fs : List (Frame M)) (s : State) (w : Bool) (stack : List Attempt) : Type 0 where
    turns : ℕ
    there : evaluate text step turns c fs s ≡ Some (d, w)
    after : valid d stack (end_state w)
    few : turns + 2 * rank d stack (end_state w) ≤ 2 * rank c (stack ++ map mark fs) s + 1

  nothing_before : (c : Config M) (n : Name) → let e = step c n in AreNested [] e.pushed e.config.events
  nothing_before c n = let e = step c n in front_nested [] c.events e.pushed e.config.events (c.events, refl) (lawful.adds c n)

  ends : (w : Bool) (c : Config M) (stack : List Attempt) → valid c (stack ++ []) (end_state w) → evaluate text step 1 c [] (end_state w) ≡ Some (c, w)
      → Enough c c [] (end_state w) w stack
  ends w c stack h e = record {
    turns = 1;
    there = e;
    after = subst (λ (z : List Attempt). valid c z (end_state w)) (append-nil stack) h;
    few = rw (append-nil stack) (omega arith);
  }

  one_call : (c d : Config M) (n : Name) (w : Bool) (s : State) (stack : List Attempt) (before : ℕ) → valid c stack (states.Retry n)
      → rank c stack (states.Retry n) ≤ before → (let e = step c n in Enough e.config d e.pushed e.state w stack) → (k : ℕ)
      × (let e = step c n in evaluate text step k e.config e.pushed e.state ≡ Some (d, w)) × valid d stack (end_state w)
      × (suc k + 2 * rank d stack (end_state w) ≤ 2 * before + 1)
  one_call c d n w s stack before h l e = let r = lawful.falls.called c stack n h in let f = e.few in (e.turns, e.there, e.after, omega arith)

  enough : {c d : Config M} {fs : List (Frame M)} {s : State} {w : Bool} → Runs text step c fs s d w → (stack : List Attempt) → AreNested [] fs c.events
      → valid c (stack ++ map mark fs) s → Enough c d fs s w stack
  unfolding evaluate
  enough (ends-ok {c = c}) stack n h = ends true c stack h refl
  enough (ends-nok {c = c}) stack n h = ends false c stack h refl
  enough (next {c = c} {d = d} {v = v} {n = m} r) stack n h =
      let p = fed c.point in
      let held = subst (λ (z : List Attempt). valid c z (states.Next m)) (append-nil stack) h in
      let given = lawful.keeps.fed c stack m (text.start c.point) (text.byte (text.start c.point)) p held in
      let low = lawful.falls.fed c stack m (text.start c.point) (text.byte (text.start c.point)) held p in
      let rest = one_call (feed text c) d m v states.Ok stack (rank c stack (states.Next m)) given low
      (enough r stack (nothing_before (feed text c) m) (lawful.keeps.called (feed text c) stack m given)) in
      record { turns = suc rest.0; there = rest.1; after = rest.2; few = rw (append-nil stack) rest.3 }
  enough (retry {c = c} {d = d} {v = v} {n = m} r) stack n h =
      let held = subst (λ (z : List Attempt). valid c z (states.Retry m)) (append-nil stack) h in
      let rest = one_call c d m v states.Ok stack (rank c stack (states.Retry m)) held (omega arith)
      (enough r stack (nothing_before c m) (lawful.keeps.called c stack m held)) in
      record { turns = suc rest.0; there = rest.1; after = rest.2; few = rw (append-nil stack) rest.3 }
  enough (first {c = c} {d = d} {e = e} {v = v} {s = s} {f = f} {fs = fs} r q) stack n h =
      let around = append_assoc stack (mark f ∷ []) (map mark fs) in
      let inner = enough r (stack ++ mark f ∷ []) (front_nested [] f.start.events fs c.events (f.start.events, refl) n.1)
      (subst (λ (z : List Attempt). valid c z s) (sym around) h) in
      let back : continuation (mark f) d true ≡ after_success f d =
      ap (λ (z : Config M). cond f.check z d) (restored text step f d (keeps text step lawful.adds r f.start.events n.1)) in
      let low = subst (λ (z : Config M). rank z stack f.ok < rank d (stack ++ mark f ∷ []) states.Ok) back (lawful.falls.ok d stack (mark f) inner.after) in
      let held = subst (λ (z : Config M). valid z stack f.ok) back (lawful.keeps.ok d stack (mark f) inner.after) in
      let outer = enough q stack (
        (after_success f d).events,
        refl,
      ) (subst (λ (z : List Attempt). valid (after_success f d) z f.ok) (sym (append-nil stack)) held) in
      let a = more_turns text step outer.turns inner.turns c fs s (d, true) inner.there in
      let b = more_turns text step inner.turns outer.turns (after_success f d) [] f.ok (e, v) outer.there in
      let few = inner.few in
      let same = ap (λ (z : List Attempt). rank c z s) around in
      let more = outer.few in
      let same_2 = ap (λ (z : List Attempt). rank (after_success f d) z f.ok) (append-nil stack) in
      record {
        turns = suc (outer.turns + inner.turns);
        there = rw a (rw (let z : outer.turns + inner.turns ≡ inner.turns + outer.turns = omega arith in z) b);
        after = outer.after;
        few = omega (arith, few, more, low, same, same_2);
      }
  enough (second {c = c} {d = d} {e = e} {v = v} {s = s} {f = f} {fs = fs} r q) stack n h =
      let around = append_assoc stack (mark f ∷ []) (map mark fs) in
      let inner = enough r (stack ++ mark f ∷ []) (front_nested [] f.start.events fs c.events (f.start.events, refl) n.1)
      (subst (λ (z : List Attempt). valid c z s) (sym around) h) in
      let back : continuation (mark f) d false ≡ hand_on f.start d = restored text step f d (keeps text step lawful.adds r f.start.events n.1) in
      let low = subst (λ (z : Config M). rank z stack f.nok < rank d (stack ++ mark f ∷ []) states.Nok) back (lawful.falls.nok d stack (mark f) inner.after) in
      let held = subst (λ (z : Config M). valid z stack f.nok) back (lawful.keeps.nok d stack (mark f) inner.after) in
      let outer = enough q stack (
        (hand_on f.start d).events,
        refl,
      ) (subst (λ (z : List Attempt). valid (hand_on f.start d) z f.nok) (sym (append-nil stack)) held) in
      let a = more_turns text step outer.turns inner.turns c fs s (d, false) inner.there in
      let b = more_turns text step inner.turns outer.turns (hand_on f.start d) [] f.nok (e, v) outer.there in
      let few = inner.few in
      let same = ap (λ (z : List Attempt). rank c z s) around in
      let more = outer.few in
      let same_2 = ap (λ (z : List Attempt). rank (hand_on f.start d) z f.nok) (append-nil stack) in
      record {
        turns = suc (outer.turns + inner.turns);
        there = rw a (rw (let z : outer.turns + inner.turns ≡ inner.turns + outer.turns = omega arith in z) b);
        after = outer.after;
        few = omega (arith, few, more, low, same, same_2);
      }

  -- what is read holds
  pub reads_valid : (c d : Config M) (s : State) (w : Bool) → valid c [] s → Runs text step c [] s d w → valid d [] (end_state w)
  reads_valid c d s w h r = (enough r [] (c.events, refl) h).after

  -- any more turns are enough, too
  at_most : (n k : ℕ) (c : Config M) (fs : List (Frame M)) (s : State) (a : Config M × Bool) → k ≤ n → evaluate text step k c fs s ≡ Some a
      → evaluate text step n c fs s ≡ Some a
  at_most n k c fs s a low e = let more = more_turns text step (n - k) k c fs s a e in rw (let z : (n - k) + k ≡ n = omega arith in z) at more

  -- how an attempt of the stack goes on

  pops : (x : Bool) (stack : List Attempt) (a : Attempt) (c : Config M) → valid c (stack ++ a ∷ []) (end_state x)
      → valid (continuation a c x) stack (state_after a x) × (rank (continuation a c x) stack (state_after a x) < rank c (stack ++ a ∷ []) (end_state x))
  pops true stack a c h = (lawful.keeps.ok c stack a h, lawful.falls.ok c stack a h)
  pops false stack a c h = (lawful.keeps.nok c stack a h, lawful.falls.nok c stack a h)

  record Unwound (n : ℕ) (front rest : List Attempt) (c d : Config M) (v w : Bool) : Type 0 where
    there : after_stack text step n rest (Some (c, v)) ≡ Some (d, w)
    after : valid d front (end_state w)
    few : rank d front (end_state w) ≤ rank c (front ++ rest) (end_state v)

  mark_there : (n : ℕ) (a : Attempt) (r : Option (Config M × Bool)) (e d : Config M) (x w : Bool) → r ≡ Some (e, x)
      → evaluate text step n (continuation a e x) [] (state_after a x) ≡ Some (d, w) → after_mark text step n a r ≡ Some (d, w)
  mark_there n a r e d x w p q = rw p q

  unwinds : (n : ℕ) (front rest : List Attempt) (c d : Config M) (v w : Bool) → valid c (front ++ rest) (end_state v)
      → 2 * rank c (front ++ rest) (end_state v) ≤ n → Unwinds text step rest c v d w → Unwound n front rest c d v w
  unwinds n front [] c d v w h low u =
      let held = subst (λ (z : List Attempt). valid c z (end_state v)) (append-nil front) h in
      let same = ap (λ (z : List Attempt). rank c z (end_state v)) (append-nil front) in
      subst (λ (z : Bool). Unwound n front [] c d v z) u.1 (subst (λ (z : Config M). Unwound n front [] c z v v) u.0
      (record { there = refl; after = held; few = omega (arith, same) }))
  unwinds n front (a ∷ rest) c d v w h low (e, x, u, r) =
      let one = append_assoc front (a ∷ []) rest in
      let held = subst (λ (z : List Attempt). valid c z (end_state v)) (sym one) h in
      let same = ap (λ (z : List Attempt). rank c z (end_state v)) one in
      let inner = unwinds n (front ++ a ∷ []) rest c e v x held (omega (arith, same, low)) u in
      let popped = pops x front a e inner.after in
      let lower = popped.1 in
      let left = inner.few in
      let on = enough r front (
        (continuation a e x).events,
        refl,
      ) (subst (λ (z : List Attempt). valid (continuation a e x) z (state_after a x)) (sym (append-nil front)) popped.0) in
      let few = on.few in
      let alone = ap (λ (z : List Attempt). rank (continuation a e x) z (state_after a x)) (append-nil front) in
      let there = at_most n on.turns (continuation a e x) [] (state_after a x) (d, w) (omega (arith, few, alone, lower, left, same, low)) on.there in
      record {
        there = mark_there n a (after_stack text step n rest (Some (c, v))) e d x w inner.there there;
        after = on.after;
        few = omega (arith, few, alone, lower, left, same);
      }

  -- whatever reading comes to, it is this function of where it is
  pub rank_enough : (c d : Config M) (stack : List Attempt) (s : State) (w : Bool) → valid c stack s → Outcome text step stack c [] s d w
      → reading text step rank c stack s ≡ Some (d, w)
  rank_enough c d stack s w h o =
      let n = 2 * rank c stack s + 1 in
      let nil = append-nil stack in
      let e = enough o.runs stack (c.events, refl) (subst (λ (z : List Attempt). valid c z s) (sym nil) h) in
      let few = e.few in
      let same = ap (λ (z : List Attempt). rank c z s) nil in
      let there = at_most n e.turns c [] s (o.mid, o.how) (omega (arith, few, same)) e.there in
      let u = unwinds n [] stack o.mid d o.how w e.after (omega (arith, few, same)) o.unwinds in
      ap (after_stack text step n stack) there ∙ u.there
