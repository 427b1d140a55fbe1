-- Reading stops after so many turns: the loop of `read` by turns.
use Rattle.std.proofs.Common.{◌≡◌, ◌∙◌, ◌⊎◌, ℕ, zero, suc, ◌+◌, ◌<◌, ◌≤◌, ◌++◌, Bool, true, false, if◌then◌else◌, List, [], ◌∷◌, length, map, reverse}
use Rattle.std.proofs.Common.{Option, None, Some, inl, inr, refl, sym, ap, subst, arith}
use Rattle.std.proofs.lemmas.List.{reverse-append, reverse-reverse}
use Rattle.markdown_engine.proofs.Prelude.{Attempt, byte_before, Config, continuation, end_state, HoldsAt, is_before, IsCut, IsFed, LawfulAt}
use Rattle.markdown_engine.proofs.Prelude.{mark, MovesOn, Name, place_in, Point, RanksAt, remaining, Source, State, state_after, Steps}
use Rattle.markdown_engine.proofs.Prelude.{VirtualByte, Walks}
use Rattle.engine_states.specs.declared.state.State.TheVariants as states
use Rattle.markdown_engine.specs.Machine.{Begins}
use Rattle.markdown_engine.specs.Reading.{with_byte}
use Rattle.markdown_engine.specs.Turns.{called, Halt, halted, handed, popped, range_start, Stops, StopsAs, turned, turns, walked}
use Rattle.markdown_engine.specs.VirtualText.{there, over, virtual_byte}
use Rattle.markdown_engine.proofs.Falls.{step_less}
use Rattle.markdown_engine.proofs.Starts.{Before, before, Forward, place_forward}
use Rattle.markdown_engine.proofs.Total.{last_of}

module _ {M : Type 0} where
  abbrev pub halt : Config M → List Attempt → State → Halt M
  halt c stack s = record { config = c; attempts = stack; state = s }

  pub halt_as : (c d : Config M) (stack other : List Attempt) (s r : State) → c ≡ d → stack ≡ other → s ≡ r → halt c stack s ≡ halt d other r
  halt_as c d stack other s r ec ea es = rw (ec, ea, es) refl

  -- the innermost attempt is the last
  popped_last : (v : Bool) (c : Config M) (rest : List Attempt) (a : Attempt)
      → popped v c (reverse (rest ++ a ∷ [])) ≡ halt (continuation a c v) rest (state_after a v)
  popped_last v c rest a = rw (reverse-append rest (a ∷ [])) (rw (reverse-reverse rest) refl)

module _ {M : Type 0} (step : Steps M) (s : Source) (to : ℕ × ℕ) (end : Bool) where
  stays_as : (c : Config M) (stack : List Attempt) (r : State) → StopsAs step s to end r (halt c stack r) → turned step s to end (halt c stack r) ≡ halt c stack r
  stays_as c stack (states.Error m) e = refl
  stays_as c stack (states.Next n) e = rw (e.1, e.0) refl
  stays_as c stack (states.Retry n) e = absurd e
  stays_as c stack states.Ok e = rw e refl
  stays_as c stack states.Nok e = rw e refl

  -- where reading stops, a turn changes nothing
  pub stays : (h : Halt M) → Stops step s to end h → turned step s to end h ≡ h
  stays h e = stays_as h.config h.attempts h.state e

  moves_as : (h : Halt M) (r : State) → StopsAs step s to end r h → MovesOn r
  moves_as h (states.Error m) e = tt
  moves_as h (states.Next n) e = tt
  moves_as h (states.Retry n) e = e
  moves_as h states.Ok e = tt
  moves_as h states.Nok e = tt

  -- a further range may begin there
  pub stops_moves : (h : Halt M) → Stops step s to end h → MovesOn h.state
  stops_moves h e = moves_as h h.state e

  -- many turns change nothing, either
  pub turns_stay : (n : ℕ) (h : Halt M) → Stops step s to end h → turns step s to end n h ≡ h
  unfolding turns
  turns_stay zero h e = refl
  turns_stay (suc n) h e = ap (turns step s to end n) (stays h e) ∙ turns_stay n h e

  -- there is one place to stop at
  stop_same : (k n : ℕ) (h : Halt M) → Stops step s to end (turns step s to end k h) → Stops step s to end (turns step s to end n h)
      → turns step s to end k h ≡ turns step s to end n h
  unfolding turns
  stop_same zero n h e f = sym (turns_stay n h e)
  stop_same (suc k) zero h e f = turns_stay (suc k) h f
  stop_same (suc k) (suc n) h e f = stop_same k n (turned step s to end h) e f

  last_turn : (k : ℕ) (h : Halt M) → turns step s to end (suc k) h ≡ turned step s to end (turns step s to end k h)
  unfolding turns
  last_turn zero h = refl
  last_turn (suc k) h = last_turn k (turned step s to end h)

  -- this is so many turns later
  abbrev pub IsLater : Halt M → Halt M → Type 0
  IsLater h g = (k : ℕ) × (turns step s to end k h ≡ g)

  pub none_later : (h : Halt M) → IsLater h h
  unfolding turns
  none_later h = (0, refl)

  pub one_later : (h g later : Halt M) → later ≡ turned step s to end g → IsLater h g → IsLater h later
  one_later h g later e (k, f) = (suc k, last_turn k h ∙ (ap (turned step s to end) f ∙ sym e))

  pub turned_pop : (v : Bool) (a : Attempt) (c d : Config M) (stack rest : List Attempt) (x y : State) → x ≡ end_state v → y ≡ state_after a v
      → stack ≡ rest ++ a ∷ [] → d ≡ continuation a c v → halt d rest y ≡ turned step s to end (halt c stack x)
  turned_pop v a c d stack rest x y ex ey es ed = halt_as d (continuation a c v) rest rest y (state_after a v) ed refl ey ∙ sym (ap (turned step s to end)
      (halt_as c c stack (rest ++ a ∷ []) x (end_state v) refl es ex) ∙ pop v)
    where
      pop : (v : Bool) → turned step s to end (halt c (rest ++ a ∷ []) (end_state v)) ≡ halt (continuation a c v) rest (state_after a v)
      pop true = popped_last true c rest a
      pop false = popped_last false c rest a

  pub turned_retry : (n : Name) (c d : Config M) (stack later : List Attempt) (x y : State) → x ≡ states.Retry n → (let e = step c n in (d ≡ e.config)
      × (later ≡ stack ++ map mark e.pushed) × (y ≡ e.state)) → halt d later y ≡ turned step s to end (halt c stack x)
  turned_retry n c d stack later x y ex (ed, el, ey) =
      let e = step c n in
      halt_as d e.config later (stack ++ map mark e.pushed) y e.state ed el ey
      ∙ sym (ap (turned step s to end) (halt_as c c stack stack x (states.Retry n) refl refl ex))

  -- what is handed in, or the end
  handed_as : (h : Halt M) (n : Name) (p : Point) (b : Option VirtualByte) → (b ≡ None → end ≡ true)
      → handed step s to end h n p b ≡ called (step (with_byte h.config p b) n) h.attempts
  handed_as h n p None stop = rw (stop refl) refl
  handed_as h n p (Some b) stop = refl

  pub turned_next : (n : Name) (p : Point) (b : Option VirtualByte) (c d : Config M) (stack later : List Attempt) (x y : State) → x ≡ states.Next n
      → p ≡ place_in s.skips c.point → b ≡ byte_before s.bytes to p → (b ≡ None → end ≡ true)
      → (let e = step (with_byte c p b) n in (d ≡ e.config) × (later ≡ stack ++ map mark e.pushed) × (y ≡ e.state))
      → halt d later y ≡ turned step s to end (halt c stack x)
  turned_next n p b c d stack later x y ex ep eb stop (ed, el, ey) =
      let e = step (with_byte c p b) n in
      let h = halt c stack (states.Next n) in
      halt_as d e.config later (stack ++ map mark e.pushed) y e.state ed el ey
      ∙ (sym (handed_as h n p b stop)
      ∙ (ap (handed step s to end h n p) eb
      ∙ (ap (λ (z : Point). handed step s to end h n z (byte_before s.bytes to z)) ep
      ∙ sym (ap (turned step s to end) (halt_as c c stack stack x (states.Next n) refl refl ex)))))

-- nothing is read after the end of a range
none_after : (t : Bool) (v : VirtualByte) → (if t then Some v else None) ≡ None → t ≡ false
none_after true v e = absurd (let f : Some v ≡ None = e in cc)
none_after false v e = refl

module _ {M : Type 0} (size : ℕ) (valid : HoldsAt M) (step : Steps M) (rank : RanksAt M) (lawful : LawfulAt size valid step rank) (s : Source) (to : ℕ × ℕ)
    (end : Bool) (fed : (p : Point) → let q = place_in s.skips p in IsFed size p q (byte_before s.bytes to q)) where
  abbrev pub HoldsThere : Halt M → Type 0
  HoldsThere h = valid h.config h.attempts h.state

  abbrev ranked : Halt M → ℕ
  ranked h = rank h.config h.attempts h.state

  -- a turn keeps what holds, and the rank falls
  abbrev Falls : Halt M → ℕ → Type 0
  Falls h before = HoldsThere h × (ranked h < before)

  call_falls : (c : Config M) (stack : List Attempt) (n : Name) (before : ℕ) → valid c stack (states.Retry n) → rank c stack (states.Retry n) ≤ before
      → Falls (called (step c n) stack) before
  call_falls c stack n before h l = let low = lawful.falls.called c stack n h in (lawful.keeps.called c stack n h, omega (arith, low, l))

  fed_falls : (c : Config M) (stack : List Attempt) (n : Name) (p : Point) (b : Option VirtualByte) → IsFed size c.point p b → valid c stack (states.Next n)
      → Falls (called (step (with_byte c p b) n) stack) (rank c stack (states.Next n))
  fed_falls c stack n p b f h =
      call_falls (with_byte c p b) stack n (rank c stack (states.Next n)) (lawful.keeps.fed c stack n p b f h) (lawful.falls.fed c stack n p b h f)

  hand_falls : (c : Config M) (stack : List Attempt) (n : Name) (p : Point) (b : Option VirtualByte) → IsFed size c.point p b → valid c stack (states.Next n)
      → ((end ≡ false) × (b ≡ None)) ⊎ Falls (handed step s to end (halt c stack (states.Next n)) n p b) (rank c stack (states.Next n))
  hand_falls c stack n p None f h = elim end as (λ t. ((t ≡ false) × ((◌≡◌ {A = Option VirtualByte}) None None)) ⊎ Falls (if t then called (step (with_byte c p None) n) stack
      else halt c stack (states.Next n)) (rank c stack (states.Next n))) [ true ↦ inr (fed_falls c stack n p None f h) | false ↦ inl (refl, refl) ]
  hand_falls c stack n p (Some b) f h = inr (fed_falls c stack n p (Some b) f h)

  pop_falls : (v : Bool) (c : Config M) (stack rest : List Attempt) (a : Attempt) → stack ≡ rest ++ a ∷ [] → valid c stack (end_state v)
      → Falls (popped v c (reverse stack)) (rank c stack (end_state v))
  pop_falls v c stack rest a e h =
      subst (λ (z : List Attempt). Falls (popped v c (reverse z)) (rank c z (end_state v))) (sym e)
      (subst (λ (z : Halt M). Falls z (rank c (rest ++ a ∷ []) (end_state v))) (sym (popped_last v c rest a))
      (pick v (subst (λ (z : List Attempt). valid c z (end_state v)) e h)))
    where
      pick : (v : Bool) → valid c (rest ++ a ∷ []) (end_state v) → Falls (halt (continuation a c v) rest (state_after a v)) (rank c (rest ++ a ∷ []) (end_state v))
      pick true k = (lawful.keeps.ok c rest a k, lawful.falls.ok c rest a k)
      pick false k = (lawful.keeps.nok c rest a k, lawful.falls.nok c rest a k)

  end_falls : (v : Bool) (c : Config M) (stack : List Attempt) → valid c stack (end_state v)
      → (stack ≡ []) ⊎ Falls (popped v c (reverse stack)) (rank c stack (end_state v))
  end_falls v c stack h = elim (last_of stack) [ inl e ↦ inl e | inr (rest, a, e) ↦ inr (pop_falls v c stack rest a e h) ]

  turn_falls : (c : Config M) (stack : List Attempt) (r : State) → valid c stack r → let h = halt c stack r in
      StopsAs step s to end r h ⊎ Falls (turned step s to end h) (rank c stack r)
  turn_falls c stack (states.Error m) h = inl tt
  turn_falls c stack (states.Next n) h =
      let p = place_in s.skips c.point in
      elim (hand_falls c stack n p (byte_before s.bytes to p) (fed c.point) h) [
        | inl (e, b) ↦ inl (e, none_after (is_before to p) (virtual_byte s.bytes p) b)
        | inr f ↦ inr f
      ]
  turn_falls c stack (states.Retry n) h = inr (call_falls c stack n (rank c stack (states.Retry n)) h (omega arith))
  turn_falls c stack states.Ok h = end_falls true c stack h
  turn_falls c stack states.Nok h = end_falls false c stack h

  settles : (n : ℕ) (h : Halt M) → HoldsThere h → ranked h < n → HoldsThere (turns step s to end n h) × Stops step s to end (turns step s to end n h)
  unfolding turns
  settles zero h v l = absurd (omega (arith, l))
  settles (suc n) h v l = elim (turn_falls h.config h.attempts h.state v) [
    | inl e ↦ subst (λ (z : Halt M). HoldsThere z × Stops step s to end z) (sym (turns_stay step s to end (suc n) h e)) (v, e)
    | inr (w, low) ↦ settles n (turned step s to end h) w (omega (arith, low, l))
  ]

  -- so many turns lead to where reading stops, and keep what holds
  pub halted_stops : (h : Halt M) → HoldsThere h → HoldsThere (halted step s to end rank h) × Stops step s to end (halted step s to end rank h)
  halted_stops h v = settles (ranked h + 1) h v (omega arith)

  -- however many turns led to where reading stops
  pub halted_at : (h g : Halt M) → HoldsThere h → IsLater step s to end h g → Stops step s to end g → g ≡ halted step s to end rank h
  halted_at h g v (k, f) e = sym f ∙ stop_same step s to end k (ranked h + 1) h (subst (Stops step s to end) (sym f) e) (halted_stops h v).1

-- where a range begins

walks_there : (bytes : List ℕ) (to : ℕ × ℕ) {p q : Point} → IsCut bytes to → Walks bytes to p q → (n : ℕ) → remaining (length bytes) p ≤ n
    → q ≡ walked n bytes to p
unfolding walked
walks_there bytes to cut (there e) zero l = refl
walks_there bytes to cut (there e) (suc n) l = rw e refl
walks_there bytes to cut (over {p = p} e w) zero l = let low = step_less bytes to p cut.within cut.column e in absurd (omega (arith, low, l))
walks_there bytes to cut (over {p = p} e w) (suc n) l =
    let low = step_less bytes to p cut.within cut.column e in rw e (walks_there bytes to cut w n (omega (arith, low, l)))

pub begins_there : (s : Source) (from : ℕ × ℕ) (p q : Point) → IsCut s.bytes from → Begins s from p q → q ≡ range_start s from p
begins_there s from p q cut (inl (e, same)) = rw e same
begins_there s from p q cut (inr (e, w)) =
    let place = place_in s.skips p in rw e (walks_there s.bytes from cut w (remaining (length s.bytes) place) (omega arith))

not_before : (p q : Point) → Forward p q → is_before (p.index, p.vs) q ≡ false
not_before p q h = pick (is_before (p.index, p.vs) q) refl
  where
    no : Forward p q → Before (p.index, p.vs) q → ⊥
    no (inl e) (inl k) = absurd (let same = ap (λ (z : Point). z.index) e in omega (arith, same, k))
    no (inl e) (inr k) = absurd (let same = ap (λ (z : Point). z.vs) e in let low = k.1 in omega (arith, same, low))
    no (inr (v, inl l)) (inl k) = absurd (omega (arith, l, k))
    no (inr (v, inl l)) (inr k) = absurd (let i = k.0 in omega (arith, l, i))
    no (inr (v, inr l)) (inl k) = absurd (let i = l.0 in omega (arith, i, k))
    no (inr (v, inr l)) (inr k) = absurd (let i = l.1 in let j = k.1 in omega (arith, i, j))

    pick : (t : Bool) → is_before (p.index, p.vs) q ≡ t → is_before (p.index, p.vs) q ≡ false
    pick true e = absurd (no h (before (p.index, p.vs) q e))
    pick false e = e

-- a range that begins where reading is
pub begins_here : (s : Source) (p : Point) → range_start s (p.index, p.vs) p ≡ p
begins_here s p = rw (not_before p (place_in s.skips p) (place_forward s.skips p)) refl
