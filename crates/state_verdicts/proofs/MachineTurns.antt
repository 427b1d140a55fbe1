-- Reading by the states of any machine, turn by turn.
use Rattle.std.proofs.Common.{◌≡◌, ◌∙◌, Bool, true, false, if◌then◌else◌, Some, None, ◌⊎◌, inl, inr, refl, sym, ap, subst, ℕ}
use Rattle.engine_events.specs.declared.place.Point.{Point}
use Rattle.engine_states.specs.declared.state.Name.{Name}
use Rattle.engine_states.specs.declared.state.State.{State}
use Rattle.engine_states.specs.declared.state.State.TheVariants as states
use Rattle.engine_programs.specs.Bodies.{Body, run, step_by}
use Rattle.markdown_engine.specs.Machine.{checks, plain, tries}
use Rattle.markdown_engine.specs.Reading.{byte_of, Config, Effect, ends-nok, ends-ok, feed, hand_on, Runs, first, next, place_after, retry, second}
use Rattle.markdown_engine.specs.ReadingLaws.{one_outcome}
use Rattle.markdown_engine.specs.VirtualText.{as_byte, Text}
use Rattle.state_verdicts.specs.Lines.{SkipsOnce}
use Rattle.state_verdicts.specs.Machines.{AtHand, GoesOnBy, ReadsBy}

module _ {W : Type 0} where
  -- the next byte is handed in
  pub fed : (text : Text) (c : Config W) (q : Point) → c.point ≡ q → AtHand text (feed text c) q
  fed text c q e = subst (λ (p : Point). AtHand text (feed text c) p) e (record { point = refl; current = refl; next = λ v h. ap (place_after c.next) h })

  -- a byte that is at hand already is handed in
  pub fed_again : (text : Text) (c : Config W) (q : Point) → SkipsOnce text → AtHand text c q → AtHand text (feed text c) q
  fed_again text c q once at =
      let h = fed text c (text.start q) at.point in
      record {
        point = h.point ∙ once q;
        current = h.current ∙ ap (λ (p : Point). byte_of (text.byte p)) (once q);
        next = λ v e. h.next v (ap text.byte (once q) ∙ e);
      }

  -- the byte that was handed in
  pub byte_at : {text : Text} {c : Config W} {q r : Point} {b : ℕ} → AtHand text c q → text.byte (text.start q) ≡ Some (as_byte b r) → c.current ≡ Some b
  byte_at h e = h.current ∙ ap byte_of e

  pub end_at : {text : Text} {c : Config W} {q : Point} → AtHand text c q → text.byte (text.start q) ≡ None → c.current ≡ None
  end_at h e = h.current ∙ ap byte_of e

  -- the same byte, whatever else was done
  pub still_at : {text : Text} {c d : Config W} {q : Point} → d.point ≡ c.point → d.current ≡ c.current → d.next ≡ c.next → AtHand text c q → AtHand text d q
  still_at p k n h = record { point = p ∙ h.point; current = k ∙ h.current; next = λ v e. n ∙ h.next v e }

module _ {W : Type 0} (bodies : Name → Body W) (text : Text) where
  -- reading goes on from what a state did
  abbrev RunsOn : Effect W → Config W → Bool → Type 0
  RunsOn e d w = Runs text (step_by bodies) e.config e.pushed e.state d w

  on_retry : (n : Name) (c d : Config W) (w : Bool) (e : Effect W) → run (bodies n) c ≡ e → RunsOn e d w → ReadsBy bodies text c (states.Retry n) d w
  unfolding ReadsBy
  on_retry n c d w e h r = retry (subst (λ (z : Effect W). RunsOn z d w) (sym h) r)

  from_retry : (n : Name) (c d : Config W) (w : Bool) → ReadsBy bodies text c (states.Retry n) d w → RunsOn (run (bodies n) c) d w
  unfolding ReadsBy
  from_retry n c d w (retry r) = r

  on_fed : (n : Name) (c d : Config W) (w : Bool) → ReadsBy bodies text (feed text c) (states.Retry n) d w → ReadsBy bodies text c (states.Next n) d w
  unfolding ReadsBy
  on_fed n c d w (retry r) = next r

  from_fed : (n : Name) (c d : Config W) (w : Bool) → ReadsBy bodies text c (states.Next n) d w → ReadsBy bodies text (feed text c) (states.Retry n) d w
  unfolding ReadsBy
  from_fed n c d w (next r) = retry r

  -- a state at the next byte is the state once that is handed in
  pub feeds : (n : Name) (c : Config W) → GoesOnBy bodies text c (states.Next n) (feed text c) (states.Retry n)
  feeds n c = record { there = λ d w r. on_fed n c d w r; only = λ d w r. from_fed n c d w r }

  -- reading goes on from where it is
  pub stays : (c : Config W) (s : State) → GoesOnBy bodies text c s c s
  stays c s = record { there = λ d w r. r; only = λ d w r. r }

  -- reading goes on from where it goes on
  pub and_on : {c d e : Config W} {s t u : State} → GoesOnBy bodies text c s d t → GoesOnBy bodies text d t e u → GoesOnBy bodies text c s e u
  and_on g h = record { there = λ f w r. g.there f w (h.there f w r); only = λ f w r. h.only f w (g.only f w r) }

  -- a state that makes no attempt goes on by what it does
  pub does : (n : Name) (c e : Config W) (s : State) → run (bodies n) c ≡ plain e s → GoesOnBy bodies text c (states.Retry n) e s
  unfolding ReadsBy
  does n c e s h = record {
    there = λ d w r. on_retry n c d w (plain e s) h r;
    only = λ d w r. subst (λ (z : Effect W). RunsOn z d w) h (from_retry n c d w r);
  }

  -- the same, to a state at the next byte
  pub does_next : (m n : Name) (c e : Config W) → run (bodies m) c ≡ plain e (states.Next n)
      → GoesOnBy bodies text c (states.Retry m) (feed text e) (states.Retry n)
  does_next m n c e h = and_on (does m c e (states.Next n) h) (feeds n e)

  behind : (at d e : Config W) (ok nok start : State) (w : Bool) → ReadsBy bodies text at start d true → RunsOn (tries ok nok at start) e w
      → ReadsBy bodies text d ok e w
  unfolding ReadsBy
  behind at d e ok nok start w r (first q k) = subst (λ (z : Config W). ReadsBy bodies text z ok e w) (sym (one_outcome r q).0) k
  behind at d e ok nok start w r (second q k) = absurd (let f : true ≡ false = (one_outcome r q).1 in cc)

  ahead : (at d e : Config W) (ok nok start : State) (w : Bool) → ReadsBy bodies text at start d true → ReadsBy bodies text d ok e w
      → RunsOn (tries ok nok at start) e w
  unfolding ReadsBy
  ahead at d e ok nok start w r k = first r k

  -- a state whose attempt goes well goes on after it
  pub tried : (n : Name) (c at e : Config W) (ok nok start : State) → run (bodies n) c ≡ tries ok nok at start → ReadsBy bodies text at start e true
      → GoesOnBy bodies text c (states.Retry n) e ok
  tried n c at e ok nok start h r = record {
    there = λ d w k. on_retry n c d w (tries ok nok at start) h (ahead at e d ok nok start w r k);
    only = λ d w k. behind at e d ok nok start w r (subst (λ (z : Effect W). RunsOn z d w) h (from_retry n c d w k));
  }

  behind_bad : (at d e : Config W) (ok nok start : State) (w : Bool) → ReadsBy bodies text at start d false → RunsOn (tries ok nok at start) e w
      → ReadsBy bodies text (hand_on at d) nok e w
  unfolding ReadsBy
  behind_bad at d e ok nok start w r (first q k) = absurd (let f : false ≡ true = (one_outcome r q).1 in cc)
  behind_bad at d e ok nok start w r (second q k) = subst (λ (z : Config W). ReadsBy bodies text (hand_on at z) nok e w) (sym (one_outcome r q).0) k

  -- a state whose attempt fails goes on in its place
  pub missed : (n : Name) (c at e : Config W) (ok nok start : State) → run (bodies n) c ≡ tries ok nok at start → ReadsBy bodies text at start e false
      → GoesOnBy bodies text c (states.Retry n) (hand_on at e) nok
  unfolding ReadsBy
  missed n c at e ok nok start h r = record {
    there = λ d w k. on_retry n c d w (tries ok nok at start) h (second r k);
    only = λ d w k. behind_bad at e d ok nok start w r (subst (λ (z : Effect W). RunsOn z d w) h (from_retry n c d w k));
  }

  -- a state whose attempt goes well, and what comes after it
  pub after_good : (n : Name) (c at d e : Config W) (ok nok start : State) (w : Bool) → run (bodies n) c ≡ tries ok nok at start
      → ReadsBy bodies text at start d true → ReadsBy bodies text d ok e w → ReadsBy bodies text c (states.Retry n) e w
  unfolding ReadsBy
  after_good n c at d e ok nok start w h r k = on_retry n c e w (tries ok nok at start) h (first r k)

  -- a state whose attempt fails, and what comes in its place
  pub after_bad : (n : Name) (c at d e : Config W) (ok nok start : State) (w : Bool) → run (bodies n) c ≡ tries ok nok at start
      → ReadsBy bodies text at start d false → ReadsBy bodies text (hand_on at d) nok e w → ReadsBy bodies text c (states.Retry n) e w
  unfolding ReadsBy
  after_bad n c at d e ok nok start w h r k = on_retry n c e w (tries ok nok at start) h (second r k)

  -- what a state that makes an attempt comes to, it comes to in one of these ways
  pub record Good (at : Config W) (ok start : State) (e : Config W) (w : Bool) : Type 0 where
    pub mid : Config W
    pub attempt : ReadsBy bodies text at start mid true
    pub on : ReadsBy bodies text mid ok e w

  pub record Bad (at : Config W) (nok start : State) (e : Config W) (w : Bool) : Type 0 where
    pub mid : Config W
    pub attempt : ReadsBy bodies text at start mid false
    pub on : ReadsBy bodies text (hand_on at mid) nok e w

  parted : (at e : Config W) (ok nok start : State) (w : Bool) → RunsOn (tries ok nok at start) e w → Good at ok start e w ⊎ Bad at nok start e w
  unfolding ReadsBy
  parted at e ok nok start w (first {d = d} r k) = inl (record { mid = d; attempt = r; on = k })
  parted at e ok nok start w (second {d = d} r k) = inr (record { mid = d; attempt = r; on = k })

  pub by_attempt : (n : Name) (c at e : Config W) (ok nok start : State) (w : Bool) → run (bodies n) c ≡ tries ok nok at start
      → ReadsBy bodies text c (states.Retry n) e w → Good at ok start e w ⊎ Bad at nok start e w
  by_attempt n c at e ok nok start w h r = parted at e ok nok start w (subst (λ (z : Effect W). RunsOn z e w) h (from_retry n c e w r))

  -- back at the start of a look ahead
  looked : (at d e : Config W) (ok nok start : State) (v w : Bool) → ReadsBy bodies text at start d v → RunsOn (checks ok nok at start) e w
      → ReadsBy bodies text (hand_on at d) (if v then ok else nok) e w
  unfolding ReadsBy
  looked at d e ok nok start true w r (first q k) = subst (λ (z : Config W). ReadsBy bodies text (hand_on at z) ok e w) (sym (one_outcome r q).0) k
  looked at d e ok nok start true w r (second q k) = absurd (let f : true ≡ false = (one_outcome r q).1 in cc)
  looked at d e ok nok start false w r (first q k) = absurd (let f : false ≡ true = (one_outcome r q).1 in cc)
  looked at d e ok nok start false w r (second q k) = subst (λ (z : Config W). ReadsBy bodies text (hand_on at z) nok e w) (sym (one_outcome r q).0) k

  look : (at d e : Config W) (ok nok start : State) (v w : Bool) → ReadsBy bodies text at start d v
      → ReadsBy bodies text (hand_on at d) (if v then ok else nok) e w → RunsOn (checks ok nok at start) e w
  unfolding ReadsBy
  look at d e ok nok start true w r k = first r k
  look at d e ok nok start false w r k = second r k

  -- a state that looks ahead goes on where it was
  pub checked : (n : Name) (c at e : Config W) (ok nok start : State) → run (bodies n) c ≡ checks ok nok at start → (v : Bool)
      → ReadsBy bodies text at start e v → GoesOnBy bodies text c (states.Retry n) (hand_on at e) (if v then ok else nok)
  checked n c at e ok nok start h v r = record {
    there = λ d w k. on_retry n c d w (checks ok nok at start) h (look at e d ok nok start v w r k);
    only = λ d w k. looked at e d ok nok start v w r (subst (λ (z : Effect W). RunsOn z d w) h (from_retry n c d w k));
  }

  -- reading ends well, or not
  pub ends_well : (c d : Config W) (s : State) → GoesOnBy bodies text c s d states.Ok → ReadsBy bodies text c s d true
  unfolding ReadsBy
  ends_well c d s g = g.there d true ends-ok

  pub fails : (c d : Config W) (s : State) → GoesOnBy bodies text c s d states.Nok → ReadsBy bodies text c s d false
  unfolding ReadsBy
  fails c d s g = g.there d false ends-nok
