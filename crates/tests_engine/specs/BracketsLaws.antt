-- The machine of brackets is lawful.
use Rattle.std.proofs.Common.{◌≡◌, ℕ, ◌+◌, ◌*◌, ◌<◌, ◌≤◌, ◌++◌, [], ◌∷◌, map, List, Bool, true, false, refl, sym, subst, arith, inl, inr, Option, Some, None}
use Rattle.std.proofs.Common.{reverse, ◌==◌, if◌then◌else◌, length}
use Rattle.engine_events.specs.declared.event.Name.TheVariants as names
use Rattle.engine_events.specs.declared.place.Point.{Point}
use Rattle.engine_states.specs.declared.state.Name.{Name}
use Rattle.engine_states.specs.declared.state.State.{State}
use Rattle.engine_states.specs.declared.state.State.TheVariants as states
use Rattle.markdown_engine.specs.declared.attempt.Attempt.{Attempt}
use Rattle.markdown_engine.specs.declared.virtual_text.VirtualByte.{VirtualByte}
use Rattle.markdown_engine.specs.Reading.{Config, Frame, Effect, mark, at_point, with_byte, continuation}
use Rattle.engine_events.specs.declared.event.Content.{Content}
use Rattle.engine_events.specs.declared.event.Content.TheVariants as contents
use Rattle.markdown_engine.specs.Chains.{first_state}
use Rattle.markdown_engine.specs.OrderLaws.{fresh_tidy}
use Rattle.tests_engine.specs.declared.brackets.Brackets.{Brackets}
use Rattle.markdown_engine.specs.Machine.{fresh_config, with_enter, with_exit, past_byte, plain, tries}
use Rattle.markdown_engine.specs.Resolving.{Leaves, LeavesAt, ResolvesAt, HoldsUnresolved, resolves_nothing, settles_whole}
use Rattle.markdown_engine.specs.ResolvingLaws.{lawful_unresolved, resolves_unresolved}
use Rattle.markdown_engine.specs.StepLaws.{by_test, handed_ahead, same_front, same_place}
use Rattle.markdown_engine.specs.Descent.{AllBelow, DescendsAt}
use Rattle.markdown_engine.specs.DescentLaws.{descends}
use Rattle.markdown_engine.specs.Laws.{BeginAround, Consumes, ConsumesAt, HasConsumed, IsAhead, IsFed, LawfulAt, AreNested, MovesOn, OnlyAdds, KeepsAt, FallsAt}
use Rattle.markdown_engine.specs.Laws.{TidiesAt, ClosesAt, remaining}
use Rattle.markdown_engine.specs.Order.{IsInnermost, Reaches, open_after}
use Rattle.tests_engine.specs.Brackets.{Part, Items, Group, Close, Rest, part, items_state, group_state, close_state, rest_state, items, rest, group, close}
use Rattle.tests_engine.specs.Brackets.{step_of, brackets_step, brackets_valid, brackets_rank, brackets_waits, brackets_weight, IsSound, Level, in_group}
use Rattle.tests_engine.specs.Brackets.{labels, labels_at, height, least, Stands}
use Rattle.tests_engine.specs.BracketsOrderLaws.{called_orders, fed_orders, moved_orders, no_more, nok_orders, ok_orders, one_more}

-- Events

module _ {M : Type 0} where
  Adds : Config M → Effect M → Type 0
  Adds c e = AreNested c.events e.pushed e.config.events

  items_adds : (b : Option ℕ) (c : Config M) → Adds c (items b c)
  unfolding Adds items
  items_adds None c = same_front c.events
  items_adds (Some b) c = by_test (Adds c) (b == 40) (tries (states.Next items_state) (states.Next rest_state) c (states.Retry group_state)) (if b == 41
      then plain c states.Ok else plain (past_byte c) (states.Next items_state))
      (same_front c.events, same_front c.events) (by_test (Adds c) (b == 41) (plain c states.Ok) (plain (past_byte c) (states.Next items_state))
      (same_front c.events) (same_front c.events))

  rest_adds : (b : Option ℕ) (c : Config M) → Adds c (rest b c)
  unfolding Adds rest
  rest_adds None c = same_front c.events
  rest_adds (Some b) c = same_front c.events

  group_adds : (b : Option ℕ) (c : Config M) → Adds c (group b c)
  unfolding Adds group
  group_adds None c = same_front c.events
  group_adds (Some b) c = let d = past_byte (with_enter names.Label None c) in
      by_test (Adds c) (b == 40) (tries (states.Next close_state) states.Nok d (states.Next items_state)) (plain c states.Nok)
      ((_, refl), same_front d.events) (same_front c.events)

  close_adds : (b : Option ℕ) (c : Config M) → Adds c (close b c)
  unfolding Adds close
  close_adds None c = same_front c.events
  close_adds (Some b) c = by_test (Adds c) (b == 41) (plain (with_exit names.Label (past_byte c)) states.Ok) (plain c states.Nok) (
    _,
    refl,
  ) (same_front c.events)

  part_adds : (p : Part) (c : Config M) → Adds c (step_of p c)
  part_adds Items c = items_adds c.current c
  part_adds Group c = group_adds c.current c
  part_adds Close c = close_adds c.current c
  part_adds Rest c = rest_adds c.current c

  brackets_adds : OnlyAdds (brackets_step {M = M})
  unfolding brackets_step Adds
  brackets_adds c n = part_adds (part n) c

-- Bytes

module _ {M : Type 0} where
  ConsumesOnce : Config M → Effect M → Type 0
  ConsumesOnce c e = Consumes e.state c e.config × BeginAround c e.pushed

  items_consume : (b : Option ℕ) (c : Config M) → c.current ≡ b → ConsumesOnce c (items b c)
  unfolding ConsumesOnce items
  items_consume None c e = (inl (same_place c), tt)
  items_consume (Some b) c e = by_test (ConsumesOnce c) (b == 40) (tries (states.Next items_state) (states.Next rest_state) c (states.Retry group_state))
      (if b == 41 then plain c states.Ok else plain (past_byte c) (states.Next items_state))
      (same_place c, (inl (same_place c), tt, tt, tt)) (by_test (ConsumesOnce c) (b == 41) (plain c states.Ok) (plain (past_byte c) (states.Next items_state))
      (inl (same_place c), tt) ((b, e, same_place (past_byte c)), tt))

  rest_consumes : (b : Option ℕ) (c : Config M) → c.current ≡ b → ConsumesOnce c (rest b c)
  unfolding ConsumesOnce rest
  rest_consumes None c e = (inl (same_place c), tt)
  rest_consumes (Some b) c e = ((b, e, same_place (past_byte c)), tt)

  group_consumes : (b : Option ℕ) (c : Config M) → c.current ≡ b → ConsumesOnce c (group b c)
  unfolding ConsumesOnce group
  group_consumes None c e = (inl (same_place c), tt)
  group_consumes (Some b) c e =
      let there : HasConsumed c (past_byte (with_enter names.Label None c)) =
      (b, e, record { point = refl; next = refl; line_start = refl; previous = refl; current = refl }) in
      by_test (ConsumesOnce c) (b == 40) (tries (states.Next close_state) states.Nok (past_byte (with_enter names.Label None c)) (states.Next items_state))
      (plain c states.Nok)
      (there, (inr there, tt, tt, tt)) (inl (same_place c), tt)

  close_consumes : (b : Option ℕ) (c : Config M) → c.current ≡ b → ConsumesOnce c (close b c)
  unfolding ConsumesOnce close
  close_consumes None c e = (inl (same_place c), tt)
  close_consumes (Some b) c e = by_test (ConsumesOnce c) (b == 41) (plain (with_exit names.Label (past_byte c)) states.Ok) (plain c states.Nok)
      (inr (b, e, record { point = refl; next = refl; line_start = refl; previous = refl; current = refl }), tt) (inl (same_place c), tt)

  part_consumes : (p : Part) (c : Config M) → ConsumesOnce c (step_of p c)
  part_consumes Items c = items_consume c.current c refl
  part_consumes Group c = group_consumes c.current c refl
  part_consumes Close c = close_consumes c.current c refl
  part_consumes Rest c = rest_consumes c.current c refl

  called_once : (c : Config M) (n : Name) → ConsumesOnce c (brackets_step c n)
  unfolding brackets_step
  called_once c n = part_consumes (part n) c

brackets_consume : {M : Type 0} (size : ℕ) → ConsumesAt (brackets_valid {M = M} size) brackets_step
unfolding ConsumesOnce
brackets_consume size c stack n h = called_once c n

-- Levels

module _ (size : ℕ) where
  later : (g : Bool) (m : ℕ) (stack : List Attempt) (l k : ℕ) → k ≤ l → Level size g m stack l → Level size g m stack k
  later false m [] l k h v = v
  later true m [] l k h v = v
  later true m (a ∷ more) l k h v = let p = v.1 in (v.0, omega arith, v.2)
  later false m (a ∷ more) l k h v = let p = v.1 in (v.0, omega arith, v.2)

  weaker : (stack : List Attempt) (l : ℕ) → Level size true 1 stack l → Level size true 0 stack l
  weaker [] l v = v
  weaker (a ∷ more) l v = let p = v.1 in (v.0, omega arith, v.2)

  further : (stack : List Attempt) (l k : ℕ) → k < l → Level size true 0 stack l → Level size true 1 stack k
  further [] l k h v = v
  further (a ∷ more) l k h v = let p = v.1 in (v.0, omega arith, v.2)

module _ {M : Type 0} (size : ℕ) (stack : List Attempt) where
  IsFine : Effect M → Type 0
  IsFine e = Stands size e.state (reverse (stack ++ map mark e.pushed)) e.config

  plain_fine : (d : Config M) (s : State) → Stands size s (reverse stack) d → IsFine (plain d s)
  unfolding IsFine
  plain_fine d s h = subst (λ (z : List Attempt). Stands size s z d) (sym (no_more stack)) h

  tries_fine : (ok nok : State) (d : Config M) (s : State) → (let f : Frame M = record { check = false; ok = ok; nok = nok; start = d } in
      Stands size s (mark f ∷ reverse stack) d) → IsFine (tries ok nok d s)
  unfolding IsFine
  tries_fine ok nok d s h = let f : Frame M = record { check = false; ok = ok; nok = nok; start = d } in
      subst (λ (z : List Attempt). Stands size s z d) (sym (one_more stack (mark f))) h

  items_fine : (b : Option ℕ) (c : Config M) → c.current ≡ b → Level size false 0 (reverse stack) (remaining size c.point) → IsAhead size c → IsFine (items b c)
  unfolding items part
  items_fine None c e h ahead = plain_fine c states.Ok (inl h)
  items_fine (Some b) c e h ahead =
      let less = ahead.less b e in
      by_test IsFine (b == 40) (tries (states.Next items_state) (states.Next rest_state) c (states.Retry group_state)) (if b == 41 then plain c states.Ok
      else plain (past_byte c) (states.Next items_state))
      (tries_fine (states.Next items_state) (states.Next rest_state) c (states.Retry group_state)
      ((record { check = refl; ok = refl; nok = refl }, omega arith, h), ahead))
      (by_test IsFine (b == 41) (plain c states.Ok) (plain (past_byte c) (states.Next items_state)) (plain_fine c states.Ok (inl h))
      (plain_fine (past_byte c) (states.Next items_state) (later size false 0 (reverse stack) (remaining size c.point) (remaining size c.next)
      (omega arith) h)))

  rest_fine : (b : Option ℕ) (c : Config M) → c.current ≡ b → Level size false 0 (reverse stack) (remaining size c.point) → IsAhead size c → IsFine (rest b c)
  unfolding rest part
  rest_fine None c e h ahead = plain_fine c states.Ok (inl h)
  rest_fine (Some b) c e h ahead =
      let less = ahead.less b e in
      plain_fine (past_byte c) (states.Next rest_state) (later size false 0 (reverse stack) (remaining size c.point) (remaining size c.next) (omega arith) h)

  group_fine : (b : Option ℕ) (c : Config M) → c.current ≡ b → Level size true 0 (reverse stack) (remaining size c.point) → IsAhead size c → IsFine (group b c)
  unfolding group part
  group_fine None c e h ahead = plain_fine c states.Nok h
  group_fine (Some b) c e h ahead =
      let d = past_byte (with_enter names.Label None c) in
      let less = ahead.less b e in
      by_test IsFine (b == 40) (tries (states.Next close_state) states.Nok d (states.Next items_state)) (plain c states.Nok)
      (tries_fine (states.Next close_state) states.Nok d (states.Next items_state) (
        record { check = refl; ok = refl; nok = refl },
        omega arith,
        further size (reverse stack) (remaining size c.point) (remaining size c.next) less h,
      ))
      (plain_fine c states.Nok h)

  close_fine : (b : Option ℕ) (c : Config M) → c.current ≡ b → Level size true 1 (reverse stack) (remaining size c.point) → IsAhead size c → IsFine (close b c)
  unfolding close part
  close_fine None c e h ahead = plain_fine c states.Nok (weaker size (reverse stack) (remaining size c.point) h)
  close_fine (Some b) c e h ahead =
      let d = with_exit names.Label (past_byte c) in
      let less = ahead.less b e in
      by_test IsFine (b == 41) (plain d states.Ok) (plain c states.Nok)
      (plain_fine d states.Ok (inr (later size true 1 (reverse stack) (remaining size c.point) (remaining size c.next) (omega arith) h)))
      (plain_fine c states.Nok (weaker size (reverse stack) (remaining size c.point) h))

  part_fine : (p : Part) (c : Config M) → Level size (in_group p) (least p) (reverse stack) (remaining size c.point) → IsAhead size c → IsFine (step_of p c)
  part_fine Items c h ahead = items_fine c.current c refl h ahead
  part_fine Group c h ahead = group_fine c.current c refl h ahead
  part_fine Close c h ahead = close_fine c.current c refl h ahead
  part_fine Rest c h ahead = rest_fine c.current c refl h ahead

  called_fine : (c : Config M) (n : Name) → brackets_valid size c stack (states.Retry n)
      → (let e = brackets_step c n in brackets_valid size e.config (stack ++ map mark e.pushed) e.state)
  unfolding IsFine brackets_valid brackets_step
  called_fine c n h = (part_fine (part n) c h.0.0 h.0.1, called_orders stack c n h.1)

  fed_stands : (c : Config M) (n : Name) (p : Point) (v : Option VirtualByte) → IsFed size c.point p v → Stands size (states.Next n) (reverse stack) c
      → Stands size (states.Retry n) (reverse stack) (with_byte c p v)
  fed_stands c n p v fed h = (
    later size (in_group (part n)) (least (part n)) (reverse stack) (remaining size c.point) (remaining size p) fed.forward h,
    handed_ahead size c p v fed,
  )

  fed_fine : (c : Config M) (n : Name) (p : Point) (v : Option VirtualByte) → IsFed size c.point p v → brackets_valid size c stack (states.Next n)
      → brackets_valid size (with_byte c p v) stack (states.Retry n)
  unfolding brackets_valid
  fed_fine c n p v fed h = (fed_stands c n p v fed h.0, fed_orders (reverse stack) size c n p v fed h.1)

  moved_stands : (c : Config M) (s : State) (p : Point) → MovesOn s → remaining size p ≤ remaining size c.point → Stands size s (reverse stack) c
      → Stands size s (reverse stack) (at_point p c)
  moved_stands c (states.Error m) p on low h = h
  moved_stands c (states.Next n) p on low h = later size (in_group (part n)) (least (part n)) (reverse stack) (remaining size c.point) (remaining size p) low h
  moved_stands c (states.Retry n) p on low h = absurd on
  moved_stands c states.Ok p on low (inl h) = inl (later size false 0 (reverse stack) (remaining size c.point) (remaining size p) low h)
  moved_stands c states.Ok p on low (inr h) = inr (later size true 1 (reverse stack) (remaining size c.point) (remaining size p) low h)
  moved_stands c states.Nok p on low h = later size true 0 (reverse stack) (remaining size c.point) (remaining size p) low h

  moved_fine : (c : Config M) (s : State) (p : Point) → MovesOn s → remaining size p ≤ remaining size c.point → Reaches c.point p
      → brackets_valid size c stack s → brackets_valid size (at_point p c) stack s
  unfolding brackets_valid
  moved_fine c s p on low order h = (moved_stands c s p on low h.0, moved_orders (reverse stack) c s p on order h.1)

  -- an attempt that went well goes on in the state that it names
  goes_on : (a : Attempt) (c : Config M) (n : Name) → a.check ≡ false → a.ok ≡ states.Next n → labels (a ∷ reverse stack) ≡ labels_at (part n) (reverse stack)
      → Level size (in_group (part n)) (least (part n)) (reverse stack) (remaining size c.point) → IsSound states.Ok (a ∷ reverse stack) c
      → brackets_valid size (continuation a c true) stack a.ok
  unfolding brackets_valid
  goes_on a c n p q e l o = let ordered = ok_orders (reverse stack) a c n p q e o in (rw p (rw q l), ordered)

  popped_ok : (a : Attempt) (c : Config M) → Stands size states.Ok (a ∷ reverse stack) c → IsSound states.Ok (a ∷ reverse stack) c
      → brackets_valid size (continuation a c true) stack a.ok
  unfolding part
  popped_ok a c (inl l) o = goes_on a c close_state l.0.check l.0.ok (rw l.0.nok refl)
      (later size true 1 (reverse stack) (remaining size a.point) (remaining size c.point) l.1 l.2) o
  popped_ok a c (inr l) o = let below = l.1 in
      goes_on a c items_state l.0.check l.0.ok (rw l.0.nok refl) (later size false 0 (reverse stack) (remaining size a.point) (remaining size c.point)
      (omega arith) l.2) o

  popped_nok : (a : Attempt) (c : Config M) → Stands size states.Nok (a ∷ reverse stack) c → IsSound states.Nok (a ∷ reverse stack) c
      → brackets_valid size (continuation a c false) stack a.nok
  unfolding brackets_valid part
  popped_nok a c l o = (rw l.0.nok l.2, nok_orders (reverse stack) a c rest_state l.0.nok (rw l.0.nok refl) o)

  was : (s : State) (a : Attempt) (c : Config M) → brackets_valid size c (stack ++ a ∷ []) s → Stands size s (a ∷ reverse stack) c
      × IsSound s (a ∷ reverse stack) c
  unfolding brackets_valid
  was s a c h = subst (λ (z : List Attempt). Stands size s z c × IsSound s z c) (one_more stack a) h

no_error : {M : Type 0} (size : ℕ) (c : Config M) (stack : List Attempt) (m : _) → brackets_valid size c stack (states.Error m) → ⊥
unfolding brackets_valid
no_error size c stack m h = h.0

brackets_held : {M : Type 0} (size : ℕ) → KeepsAt size (brackets_valid {M = M} size) brackets_step
brackets_held {M = M} size = record {
  fed = λ c stack n p v fed h. fed_fine size stack c n p v fed h;
  moved = λ c stack s p on low order h. moved_fine size stack c s p on low order h;
  called = λ c stack n h. called_fine size stack c n h;
  ok = λ c stack a h. let w = was size stack states.Ok a c h in popped_ok size stack a c w.0 w.1;
  nok = λ c stack a h. let w = was size stack states.Nok a c h in popped_nok size stack a c w.0 w.1;
  no_error = λ c stack m h. no_error size c stack m h;
}

-- The rank

module _ {M : Type 0} (size : ℕ) where
  record Descends (w : ℕ) (e : Effect M) : Type 0 where
    lower : brackets_weight size e.config e.state < w
    fewer : length e.pushed < 2
    below : AllBelow (brackets_waits size) w (map mark e.pushed)

  plain_descends : (w : ℕ) (d : Config M) (s : State) → brackets_weight size d s < w → Descends w (plain d s)
  plain_descends w d s h = record { lower = h; fewer = omega arith; below = tt }

  tries_descends : (w : ℕ) (ok nok : State) (d : Config M) (s : State) → brackets_weight size d s < w → 4 * remaining size d.point + 1 < w
      → Descends w (tries ok nok d s)
  tries_descends w ok nok d s h k = record { lower = h; fewer = omega arith; below = (k, tt) }

  module _ (c : Config M) (ahead : IsAhead size c) where
    items_descends : (b : Option ℕ) → c.current ≡ b → let w = 4 * remaining size c.point + 3 in Descends w (items b c)
    unfolding items part
    items_descends None e = plain_descends _ c states.Ok (omega arith)
    items_descends (Some b) e =
        let less = ahead.less b e in
        let w = 4 * remaining size c.point + 3 in
        by_test (Descends w) (b == 40) (tries (states.Next items_state) (states.Next rest_state) c (states.Retry group_state)) (if b == 41
        then plain c states.Ok else plain (past_byte c) (states.Next items_state))
        (tries_descends w (states.Next items_state) (states.Next rest_state) c (states.Retry group_state) (omega arith) (omega arith))
        (by_test (Descends w) (b == 41) (plain c states.Ok) (plain (past_byte c) (states.Next items_state)) (plain_descends w c states.Ok (omega arith))
        (plain_descends w (past_byte c) (states.Next items_state) (omega arith)))

    rest_descends : (b : Option ℕ) → c.current ≡ b → let w = 4 * remaining size c.point + 1 in Descends w (rest b c)
    unfolding rest part
    rest_descends None e = plain_descends _ c states.Ok (omega arith)
    rest_descends (Some b) e = let less = ahead.less b e in plain_descends _ (past_byte c) (states.Next rest_state) (omega arith)

    group_descends : (b : Option ℕ) → c.current ≡ b → let w = 4 * remaining size c.point + 2 in Descends w (group b c)
    unfolding group part
    group_descends None e = plain_descends _ c states.Nok (omega arith)
    group_descends (Some b) e =
        let less = ahead.less b e in
        let w = 4 * remaining size c.point + 2 in
        let d = past_byte (with_enter names.Label None c) in
        by_test (Descends w) (b == 40) (tries (states.Next close_state) states.Nok d (states.Next items_state)) (plain c states.Nok)
        (tries_descends w (states.Next close_state) states.Nok d (states.Next items_state) (omega arith) (omega arith))
        (plain_descends w c states.Nok (omega arith))

    close_descends : (b : Option ℕ) → let w = 4 * remaining size c.point + 1 in Descends w (close b c)
    unfolding close
    close_descends None = plain_descends _ c states.Nok (omega arith)
    close_descends (Some b) =
        let w = 4 * remaining size c.point + 1 in
        let d = with_exit names.Label (past_byte c) in
        by_test (Descends w) (b == 41) (plain d states.Ok) (plain c states.Nok) (plain_descends w d states.Ok (omega arith))
        (plain_descends w c states.Nok (omega arith))

    part_descends : (p : Part) → Descends (4 * remaining size c.point + height p) (step_of p c)
    part_descends Items = items_descends c.current refl
    part_descends Group = group_descends c.current refl
    part_descends Close = close_descends c.current
    part_descends Rest = rest_descends c.current refl

  call_descends : (c : Config M) (stack : List Attempt) (n : Name) → brackets_valid size c stack (states.Retry n)
      → Descends (brackets_weight size c (states.Retry n)) (brackets_step c n)
  unfolding brackets_step brackets_valid
  call_descends c stack n h = part_descends c h.0.1 (part n)

  ok_descends : (a : Attempt) (c : Config M) (stack : List Attempt) → Stands size states.Ok (a ∷ stack) c
      → brackets_weight size (continuation a c true) a.ok ≤ brackets_waits size a
  unfolding part
  ok_descends a c stack (inl l) = let low = l.1 in rw l.0.check (rw l.0.ok (omega arith))
  ok_descends a c stack (inr l) = let low = l.1 in rw l.0.check (rw l.0.ok (omega arith))

  nok_descends : (a : Attempt) (c : Config M) (stack : List Attempt) → Stands size states.Nok (a ∷ stack) c
      → brackets_weight size (continuation a c false) a.nok ≤ brackets_waits size a
  unfolding part
  nok_descends a c stack l = rw l.0.nok (omega arith)

  brackets_descend : DescendsAt size (brackets_valid {M = M} size) brackets_step 2 (brackets_weight size) (brackets_waits size)
  brackets_descend = record {
    fed = λ c stack n p v h fed. let low = fed.forward in omega arith;
    called = λ c stack n h. (call_descends c stack n h).lower;
    fewer = λ c stack n h. (call_descends c stack n h).fewer;
    pushed = λ c stack n h. (call_descends c stack n h).below;
    ok = λ c stack a h. ok_descends a c (reverse stack) (was size stack states.Ok a c h).0;
    nok = λ c stack a h. nok_descends a c (reverse stack) (was size stack states.Nok a c h).0;
  }

  brackets_fell : FallsAt size (brackets_valid {M = M} size) brackets_step (brackets_rank size)
  brackets_fell = descends size (brackets_valid size) brackets_step 2 (brackets_weight size) (brackets_waits size) brackets_descend

-- Order

module _ {M : Type 0} (size : ℕ) where
  brackets_tidied : TidiesAt (brackets_valid {M = M} size)
  unfolding brackets_valid
  brackets_tidied c stack s h = h.1.tidy

  brackets_closed : ClosesAt (brackets_valid {M = M} size)
  unfolding brackets_valid
  brackets_closed c true h = h.1.open_names
  brackets_closed c false h = absurd h.0

  goes_well : (c : Config M) → brackets_valid size c [] states.Nok → ⊥
  unfolding brackets_valid
  goes_well c h = h.0

-- where a group's end is read its label is the innermost
pub close_innermost : {M : Type 0} (size : ℕ) (c : Config M) (stack : List Attempt) (n : Name) → n ≡ close_state → brackets_valid size c stack (states.Retry n)
    → IsInnermost names.Label c.events
unfolding brackets_valid part
close_innermost size c stack n e h =
    (labels (reverse stack), subst (λ (z : Name). open_after [] c.events ≡ labels_at (part z) (reverse stack)) e h.1.open_names.0)

-- No resolver is registered

module _ {M : Type 0} where
  items_leaves : (b : Option ℕ) (c : Config M) → LeavesAt c (items b c)
  unfolding items
  items_leaves None c = (refl, refl)
  items_leaves (Some b) c = by_test (LeavesAt c) (b == 40) (tries (states.Next items_state) (states.Next rest_state) c (states.Retry group_state)) (if b == 41
      then plain c states.Ok else plain (past_byte c) (states.Next items_state))
      (refl, refl) (by_test (LeavesAt c) (b == 41) (plain c states.Ok) (plain (past_byte c) (states.Next items_state)) (refl, refl) (refl, refl))

  rest_leaves : (b : Option ℕ) (c : Config M) → LeavesAt c (rest b c)
  unfolding rest
  rest_leaves None c = (refl, refl)
  rest_leaves (Some b) c = (refl, refl)

  group_leaves : (b : Option ℕ) (c : Config M) → LeavesAt c (group b c)
  unfolding group
  group_leaves None c = (refl, refl)
  group_leaves (Some b) c =
      by_test (LeavesAt c) (b == 40) (tries (states.Next close_state) states.Nok (past_byte (with_enter names.Label None c)) (states.Next items_state))
      (plain c states.Nok) (refl, refl) (refl, refl)

  close_leaves : (b : Option ℕ) (c : Config M) → LeavesAt c (close b c)
  unfolding close
  close_leaves None c = (refl, refl)
  close_leaves (Some b) c = by_test (LeavesAt c) (b == 41) (plain (with_exit names.Label (past_byte c)) states.Ok) (plain c states.Nok) (refl, refl) (
    refl,
    refl,
  )

  part_leaves : (p : Part) (c : Config M) → LeavesAt c (step_of p c)
  part_leaves Items c = items_leaves c.current c
  part_leaves Group c = group_leaves c.current c
  part_leaves Close c = close_leaves c.current c
  part_leaves Rest c = rest_leaves c.current c

  brackets_leaves : Leaves (brackets_step {M = M})
  unfolding brackets_step
  brackets_leaves c n = part_leaves (part n) c

module _ {M : Type 0} (size : ℕ) where
  held : LawfulAt size (brackets_valid {M = M} size) brackets_step (brackets_rank size)
  held = record {
    adds = brackets_adds;
    consumes = brackets_consume size;
    keeps = brackets_held size;
    falls = brackets_fell size;
    tidies = brackets_tidied size;
    closes = brackets_closed size;
  }

  pub brackets_lawful : LawfulAt size (HoldsUnresolved (brackets_valid {M = M} size)) brackets_step (brackets_rank size)
  brackets_lawful = lawful_unresolved size (brackets_valid size) brackets_step (brackets_rank size) brackets_leaves held

  pub brackets_resolves : ResolvesAt (HoldsUnresolved (brackets_valid {M = M} size)) resolves_nothing settles_whole
  brackets_resolves = resolves_unresolved size (brackets_valid size) brackets_step (brackets_rank size) held (goes_well size)

-- whatever a chain's content is, it may be read from anywhere
pub begins_with : (size : ℕ) (machine : Brackets) (p : Point) (content : Content)
    → HoldsUnresolved (brackets_valid size) (fresh_config p machine) [] (states.Next (first_state content))
unfolding brackets_valid part
begins_with size machine p contents.Flow = ((tt, record { tidy = fresh_tidy p machine; marks = tt; open_names = refl }), (refl, refl))
begins_with size machine p contents.Content = ((tt, record { tidy = fresh_tidy p machine; marks = tt; open_names = refl }), (refl, refl))
begins_with size machine p contents.String = ((tt, record { tidy = fresh_tidy p machine; marks = tt; open_names = refl }), (refl, refl))
begins_with size machine p contents.Text = ((tt, record { tidy = fresh_tidy p machine; marks = tt; open_names = refl }), (refl, refl))
