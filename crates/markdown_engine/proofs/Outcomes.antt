-- Readings, with and without a stack of marks.
use Rattle.std.proofs.Common.{◌≡◌, ◌++◌, [], ◌∷◌, length, take, map, List, Bool, true, false, cond, refl, ap, subst, append_assoc}
use Rattle.std.proofs.Common.{arith}
use Rattle.std.proofs.lemmas.Grind.{common_steps}
use Rattle.std.proofs.Math.Seq.{take-append_seam}
use Rattle.markdown_engine.proofs.Prelude.{after_success, AreNested, Attempt, Config, continuation, end_state, ends-nok, ends-ok, Event, feed, first, Frame}
use Rattle.markdown_engine.proofs.Prelude.{hand_on, mark, Name, next, OnlyAdds, Outcome, restore, retry, Runs, second, State, state_after, Steps, Text}
use Rattle.markdown_engine.proofs.Prelude.{Unwinds}
use Rattle.engine_states.specs.declared.state.State.TheVariants as states
use Rattle.markdown_engine.specs.Laws.{IsFront}

pub front_take : (a b : List Event) → IsFront a b → take (length a) b ≡ a
front_take a b (m, h) = rw h (take-append_seam a m)

pub front_front : (a b c : List Event) → IsFront a b → IsFront b c → IsFront a c
front_front a b c (m, h) (n, k) = (m ++ n, grind (arith, common_steps, append_assoc {A = Event}))

pub front_nested : {M : Type 0} (a b : List Event) (fs : List (Frame M)) (c : List Event) → IsFront a b → AreNested b fs c → AreNested a fs c
front_nested a b [] c h k = front_front a b c h k
front_nested a b (f ∷ fs) c h k = (front_front a b f.start.events h k.0, k.1)

pub front_passed : {M : Type 0} (base : List Event) (f : Frame M) (d : Config M) → IsFront base f.start.events → IsFront base d.events
    → IsFront base (after_success f d).events
front_passed base f d h k = elim f.check as (λ b. IsFront base (cond b (hand_on f.start d) d).events) [ true ↦ h | false ↦ k ]

module _ {M : Type 0} (text : Text) (step : Steps M) where
  pub keeps : OnlyAdds step → {c : Config M} {fs : List (Frame M)} {s : State} {d : Config M} {v : Bool} → Runs text step c fs s d v → (base : List Event)
      → AreNested base fs c.events → IsFront base d.events
  keeps adds ends-ok base h = h
  keeps adds ends-nok base h = h
  keeps adds (next {c = c} {n = n} r) base h = let e = step (feed text c) n in
      keeps adds r base (front_nested base c.events e.pushed e.config.events h (adds (feed text c) n))
  keeps adds (retry {c = c} {n = n} r) base h = let e = step c n in keeps adds r base (front_nested base c.events e.pushed e.config.events h (adds c n))
  keeps adds (first {d = d} {f = f} r q) base h =
      let k : IsFront base d.events = front_front base f.start.events d.events h.0 (keeps adds r f.start.events h.1) in
      keeps adds q base (front_passed base f d h.0 k)
  keeps adds (second {d = d} {f = f} r q) base h = keeps adds q base h.0

  pub restored : (f : Frame M) (d : Config M) → IsFront f.start.events d.events → restore (mark f) d ≡ hand_on f.start d
  restored f d h = ap (λ (a : List Event). let c : Config M = record d {
    events = a;
    point = f.start.point;
    next = f.start.next;
    line_start = f.start.line_start;
    previous = f.start.previous;
    current = f.start.current;
  } in c) (front_take f.start.events d.events h)

  pub choice : (x : Bool) {c : Config M} {s : State} {d e : Config M} {w : Bool} {f : Frame M} {fs : List (Frame M)} → IsFront f.start.events d.events
      → Runs text step c fs s d x → Runs text step (continuation (mark f) d x) [] (state_after (mark f) x) e w → Runs text step c (f ∷ fs) s e w
  choice true {d = d} {e = e} {w = w} {f = f} h r q = first r (subst (λ (z : Config M). Runs text step (cond f.check z d) [] f.ok e w) (restored f d h) q)
  choice false {d = d} {e = e} {w = w} {f = f} h r q = second r (subst (λ (z : Config M). Runs text step z [] f.nok e w) (restored f d h) q)

  -- the frames of a call, unwound by their marks
  pub frames : OnlyAdds step → {c : Config M} {s : State} {m : Config M} {h : Bool} → (fs : List (Frame M)) (e : Config M) (x : Bool) → AreNested [] fs c.events
      → Runs text step c [] s m h → Unwinds text step (map mark fs) m h e x → Runs text step c fs s e x
  frames adds {c = c} {s = s} {m = m} {h = h} [] e x n r u =
      subst (λ (z : Bool). Runs text step c [] s e z) u.1 (subst (λ (z : Config M). Runs text step c [] s z h) u.0 r)
  frames adds {c = c} {s = s} (f ∷ fs) e x n r (e', x', u', r') =
      let q : Runs text step c fs s e' x' = frames adds fs e' x' (front_nested [] f.start.events fs c.events (f.start.events, refl) n.1) r u' in
      choice x' (keeps adds q f.start.events n.1) q r'

  pub split : (xs ys : List Attempt) (c : Config M) (v : Bool) (d : Config M) (w : Bool) → Unwinds text step (xs ++ ys) c v d w → (e : Config M) × (x : Bool)
      × Unwinds text step ys c v e x × Unwinds text step xs e x d w
  split [] ys c v d w u = (d, w, u, (refl, refl))
  split (a ∷ xs) ys c v d w (e, x, u, r) = let (e', x', u', u'') = split xs ys c v e x u in (e', x', u', (e, x, u'', r))

  pub snoc : (xs : List Attempt) (a : Attempt) (c : Config M) (v : Bool) (e : Config M) (x : Bool) (d : Config M) (w : Bool)
      → Runs text step (continuation a c v) [] (state_after a v) e x → Unwinds text step xs e x d w → Unwinds text step (xs ++ a ∷ []) c v d w
  snoc [] a c v e x d w r u = (
    c,
    v,
    (refl, refl),
    subst (λ (z : Bool). Runs text step (continuation a c v) [] (state_after a v) d z) u.1
        (subst (λ (z : Config M). Runs text step (continuation a c v) [] (state_after a v) z x) u.0 r),
  )
  snoc (b ∷ xs) a c v e x d w r (e', x', u, r') = (e', x', snoc xs a c v e x e' x' r u, r')

  pub ends : (v : Bool) (c : Config M) → Runs text step c [] (end_state v) c v
  ends true c = ends-ok
  ends false c = ends-nok

  -- an attempt is popped
  pub outcome_pop : (v : Bool) (stack : List Attempt) (a : Attempt) (c d : Config M) (w : Bool)
      → Outcome text step stack (continuation a c v) [] (state_after a v) d w → Outcome text step (stack ++ a ∷ []) c [] (end_state v) d w
  outcome_pop v stack a c d w o = record { mid = c; how = v; runs = ends v c; unwinds = snoc stack a c v o.mid o.how d w o.runs o.unwinds }

  outcome_pushed : OnlyAdds step → (stack : List Attempt) (c : Config M) (fs : List (Frame M)) (s : State) (d : Config M) (w : Bool) → AreNested [] fs c.events
      → Outcome text step (stack ++ map mark fs) c [] s d w → Outcome text step stack c fs s d w
  outcome_pushed adds stack c fs s d w n o =
      let (e, x, u, u') = split stack (map mark fs) o.mid o.how d w o.unwinds in
      record { mid = e; how = x; runs = frames adds fs e x n o.runs u; unwinds = u' }

  from_nothing : OnlyAdds step → (c : Config M) (n : Name) → let e = step c n in AreNested [] e.pushed e.config.events
  from_nothing adds c n = let e = step c n in front_nested [] c.events e.pushed e.config.events (c.events, refl) (adds c n)

  -- a state is called
  pub outcome_retry : OnlyAdds step → (stack : List Attempt) (c : Config M) (n : Name) (d : Config M) (w : Bool) → let e = step c n in
      Outcome text step (stack ++ map mark e.pushed) e.config [] e.state d w → Outcome text step stack c [] (states.Retry n) d w
  outcome_retry adds stack c n d w o =
      let e = step c n in
      let p : Outcome text step stack e.config e.pushed e.state d w = outcome_pushed adds stack e.config e.pushed e.state d w (from_nothing adds c n) o in
      record { mid = p.mid; how = p.how; runs = retry p.runs; unwinds = p.unwinds }

  pub outcome_next : OnlyAdds step → (stack : List Attempt) (c : Config M) (n : Name) (d : Config M) (w : Bool) → let e = step (feed text c) n in
      Outcome text step (stack ++ map mark e.pushed) e.config [] e.state d w → Outcome text step stack c [] (states.Next n) d w
  outcome_next adds stack c n d w o =
      let e = step (feed text c) n in
      let p : Outcome text step stack e.config e.pushed e.state d w =
      outcome_pushed adds stack e.config e.pushed e.state d w (from_nothing adds (feed text c) n) o in
      record { mid = p.mid; how = p.how; runs = next p.runs; unwinds = p.unwinds }
