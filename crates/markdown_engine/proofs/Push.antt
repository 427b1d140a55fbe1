-- The loop of `push`.
use Rattle.std.proofs.Common.{◌≡◌, ℕ, ◌+◌, ◌<◌, ◌≤◌, ◌++◌, [], ◌∷◌, length, map, List, Bool, true, false, refl, sym, ap, subst, ◌∙◌, arith, ◌⊎◌, inl, inr}
use Rattle.std.proofs.Common.{Option, None, Some, cond, is_some, not, append-nil, if◌then◌else◌}
use Rattle.std.proofs.Common.{nat_lt, ◌==◌, ◌&&◌}
use Rattle.markdown_engine.proofs.Prelude.{Attempt, byte_before, cases_lt, config, Config, context, Context, continuation, end_state, eq-eqb, eqb-true, Err}
use Rattle.markdown_engine.proofs.Prelude.{feed, GoesAll, GoesOn, HasEnded, HasFlushed, Holds, HoldsAt, is_before, IsCut, IsFed, IsRefused, LawfulAt}
use Rattle.markdown_engine.proofs.Prelude.{line_start, lt-ltb, ltb-true, mark, MovesOn, Name, Ok, OnlyAdds, Outcome, ParseState, place_in, Point, RanksAt}
use Rattle.markdown_engine.proofs.Prelude.{read_with, restore, Result, Runs, seen_as, Source, source, State, state_after, Steps, Text, text_to, Tokenizer}
use Rattle.markdown_engine.proofs.Prelude.{Turn, view_config, VirtualByte, weight, with_skip}
use Rattle.std.specs.Prelude.{OnErr, OnOk, is_err}
use Rattle.engine_states.specs.declared.state.State.TheVariants as states
use Rattle.std.specs.Borrow.{Bor}
use Rattle.markdown_options.specs.declared.message.Message.{Message}
use Rattle.markdown_engine.specs.Reading.{with_byte, at_point}
use Rattle.markdown_engine.specs.Machine.{AreCuts, Around, OpensRange, IsAfter}
use Rattle.markdown_engine.specs.Machine.{Goes, HasPushed, Did, HaltsFrom, HasHalted, halt_of}
use Rattle.markdown_engine.specs.Machine.{Shows, ReadWhole}
use Rattle.markdown_engine.specs.Laws.{KeepsAt, FallsAt, Ranks}
use Rattle.markdown_engine.specs.Turns.{Halt, halt_at, halted, Stops}
use Rattle.markdown_engine.specs.VirtualText.{virtual_byte}
use Rattle.markdown_engine.proofs.Falls.{is_fed}
use Rattle.markdown_engine.proofs.Halts.{begins_there, halt_as, halted_at, one_later, turned_next, turned_pop, turned_retry, turns_stay}
use Rattle.markdown_engine.proofs.Outcomes.{ends, outcome_pop, outcome_retry, outcome_next}
use Rattle.markdown_engine.proofs.Starts.{before, before_start, skip_later}
use Rattle.markdown_engine.proofs.Tests.{by_tests, or_right, and_both}
use Rattle.markdown_engine.proofs.Total.{feeds_to}

pub at_outcome : {M : Type 0} (text : Text) (step : Steps M) (s t : List Attempt) (c e : Config M) (x y : State) (d : Config M) (w : Bool) → s ≡ t → c ≡ e
    → x ≡ y → Outcome text step s c [] x d w → Outcome text step t e [] y d w
at_outcome {M = M} text step s t c e x y d w p q r o =
    subst (λ (z : State). Outcome text step t e [] z d w) r (subst (λ (z : Config M). Outcome text step t z [] x d w) q
    (subst (λ (z : List Attempt). Outcome text step z c [] x d w) p o))

module _ {M V T A : Type 0} (view : M → V) (text : Text) (step : Steps V) (adds : OnlyAdds step) where
  pub goes_pop : (v : Bool) (a : Attempt) (f t u : Tokenizer M T A) (s x y : State) → x ≡ end_state v → y ≡ state_after a v
      → t.attempts.items ≡ u.attempts.items ++ a ∷ [] → view_config view u ≡ continuation a (view_config view t) v → Goes view text step s f t x
      → Goes view text step s f u y
  goes_pop v a f t u s x y ex ey p q g = record {
    back = λ d w o. g.back d w (at_outcome text step (u.attempts.items ++ a ∷ []) t.attempts.items (view_config view t) (view_config view t) (end_state v) x d w
        (sym p) refl (sym ex)
        (outcome_pop text step v u.attempts.items a (view_config view t) d w (at_outcome text step u.attempts.items u.attempts.items (view_config view u)
        (continuation a (view_config view t) v) y (state_after a v) d w refl q ey o)));
  }

  pub goes_retry : (n : Name) (f t u : Tokenizer M T A) (s x y : State) → x ≡ states.Retry n → Did view (step (view_config view t) n) t u y
      → Goes view text step s f t x → Goes view text step s f u y
  goes_retry n f t u s x y ex did g = let e = step (view_config view t) n in record {
    back = λ d w o. g.back d w (at_outcome text step t.attempts.items t.attempts.items (view_config view t) (view_config view t)
        (states.Retry n) x d w refl refl (sym ex)
        (outcome_retry text step adds t.attempts.items (view_config view t) n d w
        (at_outcome text step u.attempts.items (t.attempts.items ++ map mark e.pushed)
        (view_config view u) e.config y e.state d w did.attempts did.config did.state o)));
  }

  pub goes_next : (n : Name) (f t t' u : Tokenizer M T A) (s x y : State) → x ≡ states.Next n → view_config view t' ≡ feed text (view_config view t)
      → t'.attempts.items ≡ t.attempts.items → Did view (step (view_config view t') n) t' u y → Goes view text step s f t x → Goes view text step s f u y
  goes_next n f t t' u s x y ex ec es did g =
      let d' : Did view (step (feed text (view_config view t)) n) t' u y = subst (λ (z : Config V). Did view (step z n) t' u y) ec did in
      let e = step (feed text (view_config view t)) n in
      let q : u.attempts.items ≡ t.attempts.items ++ map mark e.pushed =
      subst (λ (z : List Attempt). u.attempts.items ≡ z ++ map mark e.pushed) es d'.attempts in
      record {
        back = λ d w o. g.back d w (at_outcome text step t.attempts.items t.attempts.items (view_config view t) (view_config view t)
            (states.Next n) x d w refl refl (sym ex)
            (outcome_next text step adds t.attempts.items (view_config view t) n d w
            (at_outcome text step u.attempts.items (t.attempts.items ++ map mark e.pushed)
            (view_config view u) e.config y e.state d w q d'.config d'.state o)));
      }

-- reading goes on from one place to another, and this byte is there
pub record IsThere (s : Source) (limit : ℕ × ℕ) (c p : Point) (b : Option VirtualByte) : Type 0 where
  pub place : place_in s.skips c ≡ p
  pub byte : byte_before s.bytes limit p ≡ b

fed_as : {M : Type 0} (more : Source) (limit : ℕ × ℕ) (c : Config M) (p : Point) (b : Option VirtualByte) → IsThere more limit c.point p b
    → with_byte c p b ≡ feed (text_to more limit) c
fed_as more limit c p b h =
    subst (λ (z : Point). with_byte c p b ≡ with_byte c z (byte_before more.bytes limit z)) (sym h.place)
    (ap (λ (v : Option VirtualByte). with_byte c p v) (sym h.byte))

pub around : {M T A : Type 0} (t u : Tokenizer M T A) → Around t u → source u ≡ source t
around {T = T} {A = A} t u h =
    let f = λ (bytes : List ℕ) (skips : List (ℕ × Point)). let s : Source = record { bytes = bytes; skips = skips } in s in
    ap (λ (z : ParseState T A). f z.bytes.now u.skips.entries) h.parse_state ∙ ap (λ (z : List (ℕ × Point)). f t.parse_state.now.bytes.now z) h.skips

pub around_both : {M T A : Type 0} (t u v : Tokenizer M T A) → Around t u → Around u v → Around t v
around_both t u v h k = record { parse_state = k.parse_state ∙ h.parse_state; skips = k.skips ∙ h.skips }

pub same_read : {M T A : Type 0} (t u : Tokenizer M T A) → u.parse_state.now ≡ t.parse_state.now → read_with u ≡ read_with t
same_read {T = T} {A = A} t u h = ap (λ (z : ParseState T A). context z) h

-- the steps of what is read with
pub answers_at : {M V T A : Type 0} (view : M → V) (steps : Context T → Steps V) (x y : Context T) (n : Name) (t u : Tokenizer M T A) (s : State) → x ≡ y
    → Shows view (steps x (view_config view t) n) t u s → Shows view (steps y (view_config view t) n) t u s
answers_at {T = T} view steps x y n t u s e h = subst (λ (z : Context T). Shows view (steps z (view_config view t) n) t u s) e h

pub flushed_at : {M V T A : Type 0} (view : M → V) (steps : Context T → Steps V) (x y : Context T) (text : Text) (s : State) (old new : Tokenizer M T A)
    (r : State) → x ≡ y → IsRefused r ⊎ HasFlushed view text (steps x) s old new r → IsRefused r ⊎ HasFlushed view text (steps y) s old new r
flushed_at {T = T} view steps x y text s old new r e h = subst (λ (z : Context T). IsRefused r ⊎ HasFlushed view text (steps z) s old new r) e h

pub valid_at : {M T : Type 0} (valid : Holds T M) (x y : Context T) (c : Config M) (stack : List Attempt) (s : State) → x ≡ y → valid x c stack s
    → valid y c stack s
valid_at {T = T} valid x y c stack s e h = subst (λ (z : Context T). valid z c stack s) e h

not_ended : (v : Bool) → IsRefused (end_state v) → ⊥
not_ended true h = h
not_ended false h = h

pub unless_refused : {P : Type 0} (s : State) → (IsRefused s → ⊥) → IsRefused s ⊎ P → P
unless_refused s h (inl r) = absurd (h r)
unless_refused s h (inr p) = p

at_refused : (x y : State) → x ≡ y → IsRefused x → IsRefused y
at_refused x y e h = subst (λ (z : State). IsRefused z) e h

weight_most : (s : State) (n : ℕ) → weight s n ≤ n + 1
weight_most (states.Error m) n = omega arith
weight_most (states.Next m) n = omega arith
weight_most (states.Retry m) n = omega arith
weight_most states.Ok n = omega arith
weight_most states.Nok n = omega arith

weight_refused : (s : State) (n : ℕ) → IsRefused s → weight s n ≡ 0
weight_refused (states.Error m) n h = refl
weight_refused (states.Next m) n h = absurd h
weight_refused (states.Retry m) n h = absurd h
weight_refused states.Ok n h = absurd h
weight_refused states.Nok n h = absurd h

weight_ended : (v : Bool) (n : ℕ) → weight (end_state v) n ≡ n + 1
weight_ended true n = refl
weight_ended false n = refl

weight_known : (x y : State) (n : ℕ) → x ≡ y → weight y n ≡ n + 1 → weight x n ≡ n + 1
weight_known x y n e h = subst (λ (z : State). weight z n ≡ n + 1) (sym e) h

module _ {M : Type 0} (valid : HoldsAt M) where
  at_valid : (c d : Config M) (s t : List Attempt) (x y : State) → c ≡ d → s ≡ t → x ≡ y → valid c s x → valid d t y
  at_valid c d s t x y p q r h = subst (λ (z : State). valid d t z) r (subst (λ (z : List Attempt). valid d z x) q (subst (λ (z : Config M). valid z s x) p h))

module _ {M : Type 0} (size : ℕ) (valid : HoldsAt M) (step : Steps M) (keeps : KeepsAt size valid step) where
  kept_pop : (v : Bool) (stack : List Attempt) (a : Attempt) (c : Config M) → valid c (stack ++ a ∷ []) (end_state v)
      → valid (continuation a c v) stack (state_after a v)
  kept_pop true stack a c h = keeps.ok c stack a h
  kept_pop false stack a c h = keeps.nok c stack a h

module _ {M : Type 0} (size : ℕ) (valid : HoldsAt M) (step : Steps M) (rank : RanksAt M) (falls : FallsAt size valid step rank) where
  falls_pop : (v : Bool) (stack : List Attempt) (a : Attempt) (c : Config M) → valid c (stack ++ a ∷ []) (end_state v)
      → rank (continuation a c v) stack (state_after a v) < rank c (stack ++ a ∷ []) (end_state v)
  falls_pop true stack a c h = falls.ok c stack a h
  falls_pop false stack a c h = falls.nok c stack a h

-- what is seen of the machine goes along with what isn't restored
seen_resumed : {M V : Type 0} (view : M → V) (a : Attempt) (c : Config M) (v : Bool) → seen_as view (continuation a c v) ≡ continuation a (seen_as view c) v
seen_resumed view a c true = elim a.check as (λ b. seen_as view (cond b (restore a c) c)
    ≡ cond b (restore a (seen_as view c)) (seen_as view c)) [ true ↦ refl | false ↦ refl ]
seen_resumed view a c false = refl

pub shown_resumed : {M V T A : Type 0} (view : M → V) (a : Attempt) (t u : Tokenizer M T A) (v : Bool) → config u ≡ continuation a (config t) v
    → view_config view u ≡ continuation a (view_config view t) v
shown_resumed view a t u v e = ap (seen_as view) e ∙ seen_resumed view a (config t) v

-- the byte before the end of a range, or the end, was handed in
pub record Handing {M V T A : Type 0} (view : M → V) (size : ℕ) (to : ℕ × ℕ) (f t v : Tokenizer M T A) (p : Point) (b : Option VirtualByte) : Type 0 where
  pub place : p ≡ place_in f.skips.entries t.point
  pub byte : b ≡ byte_before f.parse_state.now.bytes.now to p
  pub fed : IsFed size t.point p b
  pub config : view_config view v ≡ with_byte (view_config view t) p b
  pub attempts : v.attempts.items ≡ t.attempts.items
  pub same : Around t v

pub handing : {M V T A : Type 0} (view : M → V) (to : ℕ × ℕ) (f t v : Tokenizer M T A) (p : Point) (b : Option VirtualByte) → let size =
    length f.parse_state.now.bytes.now in to.0 ≤ size → (to.0 ≡ size → to.1 ≡ 0) → Around f t
    → p ≡ place_in t.skips.entries t.point → b ≡ byte_before t.parse_state.now.bytes.now to p → config v ≡ with_byte (config t) p b → v.attempts ≡ t.attempts
    → v.parse_state ≡ t.parse_state → v.skips ≡ t.skips → Handing view size to f t v p b
handing view to f t v p b within column held ep eb ec ea es ek =
    let same = around f t held in
    let place = ep ∙ ap (λ (z : Source). place_in z.skips t.point) same in
    let byte = eb ∙ ap (λ (z : Source). byte_before z.bytes to p) same in
    record {
      place = place;
      byte = byte;
      fed = is_fed f.parse_state.now.bytes.now f.skips.entries to t.point p b within column place byte;
      config = ap (seen_as view) ec;
      attempts = rw ea refl;
      same = record { parse_state = rw es refl; skips = rw ek refl };
    }

module _ {M V T A : Type 0} (view : M → V) (size : ℕ) (valid : HoldsAt V) (step : Steps V) (rank : RanksAt V) (lawful : LawfulAt size valid step rank) where
  pub is_valid : (to : ℕ × ℕ) (end : Bool) (f t : Tokenizer M T A) (s x y : State) → x ≡ y → (IsRefused y → ⊥) → Turn view valid step to end f s t x
      → valid (view_config view t) t.attempts.items y
  is_valid to end f t s x y e h k =
      subst (λ (z : State). valid (view_config view t) t.attempts.items z) e (unless_refused x (λ r. h (at_refused x y e r)) k.holds)

  pub turn_pop : (v : Bool) (a : Attempt) (to : ℕ × ℕ) (end : Bool) (f t u : Tokenizer M T A) (s x y : State) → x ≡ end_state v → y ≡ state_after a v
      → t.attempts.items ≡ u.attempts.items ++ a ∷ [] → view_config view u ≡ continuation a (view_config view t) v → Around t u
      → Turn view valid step to end f s t x → Turn view valid step to end f s u y
  turn_pop v a to end f t u s x y ex ey p q b h =
      let k : valid (view_config view t) (u.attempts.items ++ a ∷ []) (end_state v) =
      subst (λ (z : List Attempt). valid (view_config view t) z (end_state v)) p (is_valid to end f t s x (end_state v) ex (not_ended v) h) in
      record {
        same = around_both f t u h.same b;
        holds = inr (at_valid valid (continuation a (view_config view t) v) (view_config view u) u.attempts.items u.attempts.items (state_after a v) y
            (sym q) refl (sym ey) (kept_pop size valid step lawful.keeps v u.attempts.items a (view_config view t) k));
        reads = elim h.reads [
          | inl r ↦ absurd (not_ended v (at_refused x (end_state v) ex r))
          | inr g ↦ inr
              (λ more limit on. goes_pop view (text_to more limit) step lawful.adds v a f t u s x y ex ey p q (g more limit on))
        ];
        turned = elim h.turned [
          | inl r ↦ absurd (not_ended v (at_refused x (end_state v) ex r))
          | inr k ↦ inr (one_later step (source f) to end (halt_of view f s) (halt_of view t x) (halt_of view u y)
              (turned_pop step (source f) to end v a (view_config view t) (view_config view u) t.attempts.items u.attempts.items x y ex ey p q) k)
        ];
      }

  pub turn_retry : (n : Name) (to : ℕ × ℕ) (end : Bool) (f t u : Tokenizer M T A) (s x y : State) → x ≡ states.Retry n
      → Shows view (step (view_config view t) n) t u y → Turn view valid step to end f s t x → Turn view valid step to end f s u y
  turn_retry n to end f t u s x y ex h k =
      let e = step (view_config view t) n in
      let v : valid (view_config view t) t.attempts.items (states.Retry n) = is_valid to end f t s x (states.Retry n) ex (λ r. r) k in
      elim h.1 [
        | inl r ↦ record { same = around_both f t u k.same h.0; holds = inl r; reads = inl r; turned = inl r }
        | inr did ↦ record {
          same = around_both f t u k.same h.0;
          holds = inr (at_valid valid e.config (view_config view u) (t.attempts.items ++ map mark e.pushed) u.attempts.items e.state y (sym did.config)
              (sym did.attempts) (sym did.state) (lawful.keeps.called (view_config view t) t.attempts.items n v));
          reads = elim k.reads [
            | inl r ↦ absurd (at_refused x (states.Retry n) ex r)
            | inr g ↦ inr
                (λ more limit on. goes_retry view (text_to more limit) step lawful.adds n f t u s x y ex did (g more limit on))
          ];
          turned = elim k.turned [
            | inl r ↦ absurd (at_refused x (states.Retry n) ex r)
            | inr l ↦ inr (one_later step (source f) to end (halt_of view f s) (halt_of view t x) (halt_of view u y)
                (turned_retry step (source f) to end n (view_config view t) (view_config view u) t.attempts.items u.attempts.items x y ex (
                  did.config,
                  did.attempts,
                  did.state,
                )) l)
          ];
        }
      ]

  pub valid_fed : (n : Name) (p : Point) (b : Option VirtualByte) (to : ℕ × ℕ) (end : Bool) (f t v : Tokenizer M T A) (s x : State)
      → Handing view size to f t v p b → x ≡ states.Next n → Turn view valid step to end f s t x → valid (view_config view v) v.attempts.items (states.Retry n)
  valid_fed n p b to end f t v s x given ex k =
      let h : valid (view_config view t) t.attempts.items (states.Next n) = is_valid to end f t s x (states.Next n) ex (λ r. r) k in
      at_valid valid (with_byte (view_config view t) p b) (view_config view v) t.attempts.items v.attempts.items (states.Retry n) (states.Retry n)
      (sym given.config) (sym given.attempts) refl (lawful.keeps.fed (view_config view t) t.attempts.items n p b given.fed h)

  -- what was called, by where reading was before the byte was handed in
  did_next : (n : Name) (p : Point) (b : Option VirtualByte) {to : ℕ × ℕ} (f t v u : Tokenizer M T A) (y : State) → Handing view size to f t v p b
      → Did view (step (view_config view v) n) v u y → let e = step (with_byte (view_config view t) p b) n in (view_config view u ≡ e.config)
      × (u.attempts.items ≡ t.attempts.items ++ map mark e.pushed) × (y ≡ e.state)
  did_next n p b f t v u y given did =
      let d : Did view (step (with_byte (view_config view t) p b) n) v u y =
      subst (λ (z : Config V). Did view (step z n) v u y) given.config did in
      let e = step (with_byte (view_config view t) p b) n in
      (d.config, subst (λ (z : List Attempt). u.attempts.items ≡ z ++ map mark e.pushed) given.attempts d.attempts, d.state)

  pub turn_next : (n : Name) (p : Point) (b : Option VirtualByte) (to : ℕ × ℕ) (end : Bool) (f t v u : Tokenizer M T A) (s x y : State)
      → Handing view size to f t v p b → x ≡ states.Next n
      → ((more : Source) (limit : ℕ × ℕ) → GoesOn (source f) to end more limit → IsThere more limit t.point p b) → (b ≡ None → end ≡ true)
      → Shows view (step (view_config view v) n) v u y → Turn view valid step to end f s t x → Turn view valid step to end f s u y
  turn_next n p b to end f t v u s x y given ex text stop h k =
      let e = step (view_config view v) n in
      let bs : Around f u = around_both f v u (around_both f t v k.same given.same) h.0 in
      elim h.1 [
        | inl r ↦ record { same = bs; holds = inl r; reads = inl r; turned = inl r }
        | inr did ↦ record {
          same = bs;
          holds = inr (at_valid valid e.config (view_config view u) (v.attempts.items ++ map mark e.pushed) u.attempts.items e.state y (sym did.config)
              (sym did.attempts) (sym did.state) (lawful.keeps.called (view_config view v) v.attempts.items n (valid_fed n p b to end f t v s x given ex k)));
          reads = elim k.reads [
            | inl r ↦ absurd (at_refused x (states.Next n) ex r)
            | inr g ↦ inr
                (λ more limit on. goes_next view (text_to more limit) step lawful.adds n f t v u s x y ex
                (given.config ∙ fed_as more limit (view_config view t) p b (text more limit on)) given.attempts did (g more limit on))
          ];
          turned = elim k.turned [
            | inl r ↦ absurd (at_refused x (states.Next n) ex r)
            | inr l ↦ inr (one_later step (source f) to end (halt_of view f s) (halt_of view t x) (halt_of view u y)
                (turned_next step (source f) to end n p b (view_config view t) (view_config view u) t.attempts.items u.attempts.items x y ex given.place
                given.byte stop (did_next n p b f t v u y given did)) l)
          ];
        }
      ]

  smaller_by : (t u : Tokenizer M T A) (x y : State) → rank (view_config view u) u.attempts.items y < rank (view_config view t) t.attempts.items x
      → weight x (rank (view_config view t) t.attempts.items x) ≡ rank (view_config view t) t.attempts.items x + 1
      → weight y (rank (view_config view u) u.attempts.items y) < weight x (rank (view_config view t) t.attempts.items x)
  smaller_by t u x y h k = let m = weight_most y (rank (view_config view u) u.attempts.items y) in omega arith

  pub smaller_pop : (v : Bool) (a : Attempt) (to : ℕ × ℕ) (end : Bool) (f t u : Tokenizer M T A) (s x y : State) → x ≡ end_state v → y ≡ state_after a v
      → t.attempts.items ≡ u.attempts.items ++ a ∷ [] → view_config view u ≡ continuation a (view_config view t) v → Turn view valid step to end f s t x
      → weight y (rank (view_config view u) u.attempts.items y) < weight x (rank (view_config view t) t.attempts.items x)
  smaller_pop v a to end f t u s x y ex ey p q h =
      let k : valid (view_config view t) (u.attempts.items ++ a ∷ []) (end_state v) =
      subst (λ (z : List Attempt). valid (view_config view t) z (end_state v)) p (is_valid to end f t s x (end_state v) ex (not_ended v) h) in
      let lower = falls_pop size valid step rank lawful.falls v u.attempts.items a (view_config view t) k in
      let at_u : rank (view_config view u) u.attempts.items y ≡ rank (continuation a (view_config view t) v) u.attempts.items (state_after a v) = cc in
      let at_t : rank (view_config view t) t.attempts.items x ≡ rank (view_config view t) (u.attempts.items ++ a ∷ []) (end_state v) = cc in
      smaller_by t u x y (omega arith) (weight_known x (end_state v) (rank (view_config view t) t.attempts.items x) ex
      (weight_ended v (rank (view_config view t) t.attempts.items x)))

  pub smaller_retry : (n : Name) (to : ℕ × ℕ) (end : Bool) (f t u : Tokenizer M T A) (s x y : State) → x ≡ states.Retry n
      → Shows view (step (view_config view t) n) t u y → Turn view valid step to end f s t x
      → weight y (rank (view_config view u) u.attempts.items y) < weight x (rank (view_config view t) t.attempts.items x)
  smaller_retry n to end f t u s x y ex a k =
      let h : valid (view_config view t) t.attempts.items (states.Retry n) = is_valid to end f t s x (states.Retry n) ex (λ r. r) k in
      let top : weight x (rank (view_config view t) t.attempts.items x) ≡ rank (view_config view t) t.attempts.items x + 1 =
      weight_known x (states.Retry n) (rank (view_config view t) t.attempts.items x) ex refl in
      elim a.1 [
        | inl r ↦ (let z = weight_refused y (rank (view_config view u) u.attempts.items y) r in omega arith)
        | inr did ↦ (
            let lower = lawful.falls.called (view_config view t) t.attempts.items n h in
            let e = step (view_config view t) n in
            let at_u : rank (view_config view u) u.attempts.items y ≡ rank e.config (t.attempts.items ++ map mark e.pushed) e.state = cc in
            let at_t : rank (view_config view t) t.attempts.items x ≡ rank (view_config view t) t.attempts.items (states.Retry n) = cc in
            smaller_by t u x y (omega arith) top)
      ]

  pub smaller_next : (n : Name) (p : Point) (b : Option VirtualByte) (to : ℕ × ℕ) (end : Bool) (f t v u : Tokenizer M T A) (s x y : State)
      → Handing view size to f t v p b → x ≡ states.Next n
      → Shows view (step (view_config view v) n) v u y → Turn view valid step to end f s t x
      → weight y (rank (view_config view u) u.attempts.items y) < weight x (rank (view_config view t) t.attempts.items x)
  smaller_next n p b to end f t v u s x y given ex a k =
      let h : valid (view_config view t) t.attempts.items (states.Next n) = is_valid to end f t s x (states.Next n) ex (λ r. r) k in
      let hv = valid_fed n p b to end f t v s x given ex k in
      let top : weight x (rank (view_config view t) t.attempts.items x) ≡ rank (view_config view t) t.attempts.items x + 1 =
      weight_known x (states.Next n) (rank (view_config view t) t.attempts.items x) ex refl in
      elim a.1 [
        | inl r ↦ (let z = weight_refused y (rank (view_config view u) u.attempts.items y) r in omega arith)
        | inr did ↦ (
            let lower = lawful.falls.called (view_config view v) v.attempts.items n hv in
            let fed = lawful.falls.fed (view_config view t) t.attempts.items n p b h given.fed in
            let e = step (view_config view v) n in
            let at_u : rank (view_config view u) u.attempts.items y ≡ rank e.config (v.attempts.items ++ map mark e.pushed) e.state = cc in
            let ec = given.config in
            let es = given.attempts in
            let at_v : rank (view_config view v) v.attempts.items (states.Retry n)
            ≡ rank (with_byte (view_config view t) p b) t.attempts.items (states.Retry n) = cc in
            let at_t : rank (view_config view t) t.attempts.items x ≡ rank (view_config view t) t.attempts.items (states.Next n) = cc in
            smaller_by t u x y (omega arith) top)
      ]

at_index : (to limit : ℕ × ℕ) (p : Point) → IsAfter to limit → p.index ≡ to.0 → p.vs < to.1 → (to.0 < limit.0) ⊎ (limit.0 ≤ to.0) → is_before limit p ≡ true
at_index to limit p h e l (inl k) = let i : p.index < limit.0 = omega arith in rw (lt-ltb p.index limit.0 i) refl
at_index to limit p h e l (inr k) =
    let low = h.index in
    let same : to.0 ≡ limit.0 = omega arith in
    let c = h.column same in
    or_right (nat_lt p.index limit.0) ((p.index == limit.0) && nat_lt p.vs limit.1)
    (and_both (p.index == limit.0) (nat_lt p.vs limit.1) (eq-eqb p.index limit.0 (e ∙ same)) (lt-ltb p.vs limit.1 (omega arith)))

-- a place before the range's end is before any later end
before_later : (to limit : ℕ × ℕ) (p : Point) → IsAfter to limit → is_before to p ≡ true → is_before limit p ≡ true
before_later to limit p h e =
    elim (by_tests (nat_lt p.index to.0) (p.index == to.0) (nat_lt p.vs to.1) e) [
      | inl k ↦ (let i = ltb-true p.index to.0 k in let low = h.index in let j : p.index < limit.0 = omega arith in rw (lt-ltb p.index limit.0 j) refl)
      | inr k ↦ at_index to limit p h (eqb-true p.index to.0 k.0) (ltb-true p.vs to.1 k.1) (cases_lt to.0 limit.0)
    ]

-- what a byte before the range's end is, it is however the text goes on
pub same_text : (old : Source) (to : ℕ × ℕ) (more : Source) (limit : ℕ × ℕ) (c p : Point) (end : Bool) (b : Option VirtualByte) → p ≡ place_in old.skips c
    → b ≡ byte_before old.bytes to p → GoesOn old to end more limit → (b ≡ None → end ≡ true) → IsThere more limit c p b
same_text old to more limit c p end b ep eb on h = pick (is_before to p) refl
  where
    pick : (t : Bool) → is_before to p ≡ t → IsThere more limit c p b
    pick true q =
        let e : is_before to (place_in old.skips c) ≡ true = subst (λ (z : Point). is_before to z ≡ true) ep q in
        record {
          place = on.starts c (before_start old.skips to c e) ∙ sym ep;
          byte = subst (λ (z : List ℕ). byte_before z limit p ≡ b) (sym on.bytes) (rw (before_later to limit p on.after q) (sym (rw q at eb)));
        }
    pick false q =
        let e = on.ends (h (rw q at eb)) in
        record {
          place = subst (λ (z : Source). place_in z.skips c ≡ p) (sym e.0) (sym ep);
          byte = subst (λ (z : Source). byte_before z.bytes limit p ≡ b) (sym e.0) (subst (λ (z : ℕ × ℕ). byte_before old.bytes z p ≡ b) (sym e.1) (sym eb));
        }

pub at_end : (b : Option VirtualByte) (n end : Bool) → is_some b ≡ not n → ((n ≡ true) × (end ≡ true)) ⊎ (n ≡ false) → b ≡ None → end ≡ true
at_end b n end h (inl k) e = k.1
at_end b n end h (inr k) e = absurd (let f : false ≡ true = sym (ap is_some e) ∙ (h ∙ ap not k) in cc)

-- the stack has the same attempts
pub same_stack : {M V T A : Type 0} (view : M → V) (valid : HoldsAt V) (step : Steps V) (to : ℕ × ℕ) (end : Bool) (f t u : Tokenizer M T A) (s x : State)
    → view_config view u ≡ view_config view t → t.attempts.items ≡ u.attempts.items ++ [] → Around t u
    → Turn view valid step to end f s t x → Around f u × (IsRefused x ⊎ GoesAll view step (source f) to end s f u x)
same_stack view valid step to end f t u s x ec es eb k = (
  around_both f t u k.same eb,
  elim k.reads [
    | inl r ↦ inl r
    | inr g ↦ inr (λ more limit on. record {
      back = λ d w o. (g more limit on).back d w (at_outcome (text_to more limit) step u.attempts.items t.attempts.items (view_config view u)
          (view_config view t) x x d w (sym (es ∙ append-nil u.attempts.items)) ec refl o);
    })
  ],
)

refused_stops : {M : Type 0} (step : Steps M) (s : Source) (to : ℕ × ℕ) (end : Bool) (c : Config M) (stack : List Attempt) (r : State) → IsRefused r
    → (let h : Halt M = record { config = c; attempts = stack; state = r } in Stops step s to end h)
refused_stops step s to end c stack (states.Error m) h = tt
refused_stops step s to end c stack (states.Next n) h = absurd h
refused_stops step s to end c stack (states.Retry n) h = absurd h
refused_stops step s to end c stack states.Ok h = absurd h
refused_stops step s to end c stack states.Nok h = absurd h

-- with nothing that waits
ended_stops : {M V T A : Type 0} (view : M → V) (step : Steps V) (s : Source) (to : ℕ × ℕ) (end v : Bool) (u : Tokenizer M T A) (x : State)
    → x ≡ end_state v → u.attempts.items ≡ [] → Stops step s to end (halt_of view u x)
ended_stops view step s to end v u x ex e =
    subst (λ (z : State). Stops step s to end (halt_of view u z)) (sym ex) (pick v e)
  where
    pick : (v : Bool) → u.attempts.items ≡ [] → Stops step s to end (halt_of view u (end_state v))
    pick true h = h
    pick false h = h

nothing_there : (t : Bool) (v : VirtualByte) → is_some (if t then Some v else None) ≡ false → t ≡ false
nothing_there true v e = absurd (let f : true ≡ false = e in cc)
nothing_there false v e = refl

-- at the range's end
pub next_stops : {M V T A : Type 0} (view : M → V) (step : Steps V) (to : ℕ × ℕ) (end : Bool) (f t : Tokenizer M T A) (n : Name) (p : Point)
    (b : Option VirtualByte) (x : State) → Around f t → p ≡ place_in t.skips.entries t.point → b ≡ byte_before t.parse_state.now.bytes.now to p
    → is_some b ≡ false → end ≡ false → x ≡ states.Next n → Stops step (source f) to end (halt_of view t x)
next_stops view step to end f t n p b x h ep eb e last ex =
    let none : is_before to p ≡ false = nothing_there (is_before to p) (virtual_byte t.parse_state.now.bytes.now p) (sym (ap is_some eb) ∙ e) in
    let there : is_before to (place_in t.skips.entries t.point) ≡ false = subst (λ (z : Point). is_before to z ≡ false) ep none in
    subst (λ (z : State). Stops step (source f) to end (halt_of view t z)) (sym ex) (
      last,
      subst (λ (z : Source). is_before to (place_in z.skips t.point) ≡ false) (around f t h) there,
    )

-- where the loop stops, so many turns lead
pub stopped : {M V T A : Type 0} (view : M → V) (valid : Holds T V) (steps : Context T → Steps V) (ranks : Ranks T V) (to : ℕ × ℕ) (end : Bool)
    (f t u : Tokenizer M T A) (s x : State) → (let z = read_with f in LawfulAt (length z.bytes) (valid z) (steps z) (ranks z)) → IsCut (source f).bytes to
    → IsRefused s ⊎ valid (read_with f) (view_config view f) f.attempts.items s → Turn view (valid (read_with f)) (steps (read_with f)) to end f s t x
    → view_config view u ≡ view_config view t → u.attempts.items ≡ t.attempts.items → Around t u
    → Stops (steps (read_with f)) (source f) to end (halt_of view u x) → IsRefused x ⊎ HasHalted view steps ranks to end (halt_of view f s) f u x
stopped {V = V} view valid steps ranks to end f t u s x lawful cut v k ec ea ar e =
    let z = read_with f in
    let h = halt_of view f s in
    let g = halt_of view u x in
    let same : g ≡ halt_of view t x = rw (ec, ea) refl in
    elim k.turned [
      | inl r ↦ inl r
      | inr (n, later) ↦ elim v [
        | inl r ↦ (
            let back : h ≡ halt_of view t x =
            sym (turns_stay (steps z) (source f) to end n h (refused_stops (steps z) (source f) to end h.config h.attempts s r)) ∙ later in
            inl (subst (λ (y : Halt V). IsRefused y.state) back r))
        | inr w ↦ inr (record {
          same = around_both f t u k.same ar;
          halt = halted_at (length z.bytes) (valid z) (steps z) (ranks z) lawful (source f) to end (feeds_to (source f) to cut.within cut.column) h g w
              (n, later ∙ sym same) e;
        })
      ]
    ]

-- neither the range's end nor whether it failed counts
pub halted_as : {M V T A : Type 0} (view : M → V) (steps : Context T → Steps V) (ranks : Ranks T V) (to : ℕ × ℕ) (end : Bool) (from : Halt V)
    (old new later : Tokenizer M T A) (r : State) → halt_of view later r ≡ halt_of view new r → Around new later
    → HasHalted view steps ranks to end from old new r → HasHalted view steps ranks to end from old later r
halted_as view steps ranks to end from old new later r e ar h = record { same = around_both old new later h.same ar; halt = e ∙ h.halt }

-- a range was read from its start
pub halts_from : {M V T A : Type 0} (view : M → V) (steps : Context T → Steps V) (ranks : Ranks T V) (from to : ℕ × ℕ) (old start new : Tokenizer M T A)
    (s r : State) → IsCut (source old).bytes from → OpensRange from old start → HasHalted view steps ranks to false (halt_of view start s) start new r
    → HaltsFrom view steps ranks from to s old new r
halts_from {M = M} {V = V} {T = T} {A = A} view steps ranks from to old start new s r cut o h =
    let begun = halt_as (view_config view start) (at_point o.point (view_config view old)) start.attempts.items old.attempts.items s s
    (ap (seen_as view) o.config) o.attempts refl in
    let at = begins_there (source old) from old.point o.point cut o.begins in
    let first = begun ∙ ap (λ (p : Point). halt_at p (halt_of view old s)) at in
    let x = read_with start in
    let y = read_with old in
    record {
      same = around_both old start new o.same h.same;
      halt = h.halt
          ∙ (ap (λ (z : Context T). halted (steps z) (source start) to false (ranks z) (halt_of view start s)) (same_read old start o.same.parse_state)
          ∙ (ap (λ (z : Source). halted (steps y) z to false (ranks y) (halt_of view start s)) (around old start o.same)
          ∙ ap (halted (steps y) (source old) to false (ranks y)) first));
    }

-- it stops with nothing that waits
pub stopped_alone : {M V T A : Type 0} (view : M → V) (valid : Holds T V) (steps : Context T → Steps V) (ranks : Ranks T V) (to : ℕ × ℕ) (end v : Bool)
    (f t u : Tokenizer M T A) (s x : State) → (let z = read_with f in LawfulAt (length z.bytes) (valid z) (steps z) (ranks z)) → IsCut (source f).bytes to
    → IsRefused s ⊎ valid (read_with f) (view_config view f) f.attempts.items s → Turn view (valid (read_with f)) (steps (read_with f)) to end f s t x
    → view_config view u ≡ view_config view t → Around t u → x ≡ end_state v → t.attempts.items ≡ u.attempts.items ++ [] → u.attempts.items ≡ []
    → IsRefused x ⊎ HasHalted view steps ranks to end (halt_of view f s) f u x
stopped_alone view valid steps ranks to end v f t u s x lawful cut h k ec ar ex es e =
    stopped view valid steps ranks to end f t u s x lawful cut h k ec (sym (es ∙ append-nil u.attempts.items)) ar
    (ended_stops view (steps (read_with f)) (source f) to end v u x ex e)

-- where a range begins, what is next holds
pub opened_valid : {M V T A : Type 0} (view : M → V) (valid : HoldsAt V) (step : Steps V) (from : ℕ × ℕ) (f t : Tokenizer M T A) (s : State)
    → KeepsAt (length f.parse_state.now.bytes.now) valid step → MovesOn s → OpensRange from f t → valid (view_config view f) f.attempts.items s
    → valid (view_config view t) t.attempts.items s
opened_valid view valid step from f t s keeps m o v =
    at_valid valid (at_point o.point (view_config view f)) (view_config view t) f.attempts.items t.attempts.items s s (sym (ap (seen_as view) o.config))
    (sym o.attempts) refl (keeps.moved (view_config view f) f.attempts.items s o.point m o.forward o.order v)

at_itself : (to : ℕ × ℕ) → IsAfter to to
at_itself to = record { index = omega arith; column = λ e. omega arith }

right_there : (s : Source) (to : ℕ × ℕ) → GoesOn s to true s to
right_there s to = record { bytes = refl; after = at_itself to; starts = λ p e. refl; ends = λ e. (refl, refl) }

done : {M V T A : Type 0} (view : M → V) (step : Steps V) (to : ℕ × ℕ) (old new : Tokenizer M T A) (s r : State) → HasEnded new r
    → GoesAll view step (source old) to true s old new r → (v : Bool) → r ≡ end_state v → HasFlushed view (text_to (source old) to) step s old new r
done view step to old new s r h g v e =
    let text = text_to (source old) to in
    let o : Outcome text step new.attempts.items (view_config view new) [] r (view_config view new) v =
    at_outcome text step [] new.attempts.items (view_config view new) (view_config view new) (end_state v) r (view_config view new) v (sym h.attempts) refl
    (sym e) (record { mid = view_config view new; how = v; runs = ends text step v (view_config view new); unwinds = (refl, refl) }) in
    record { well = v; state = e; outcome = (g (source old) to (right_there (source old) to)).back (view_config view new) v o }

pub flushed : {M V T A : Type 0} (view : M → V) (step : Steps V) (to : ℕ × ℕ) (old new : Tokenizer M T A) (s r : State) → Around old new
    × (IsRefused r ⊎ GoesAll view step (source old) to true s old new r) → IsRefused r ⊎ HasEnded new r → IsRefused r
    ⊎ HasFlushed view (text_to (source old) to) step s old new r
flushed view step to old new s r p (inl h) = inl h
flushed view step to old new s r p (inr h) =
    elim p.1 [
      | inl k ↦ inl k
      | inr g ↦ inr
          (elim h.state [ inl e ↦ done view step to old new s r h g true e | inr e ↦ done view step to old new s r h g false e ])
    ]

-- what else the tokenizer holds doesn't matter
pub flushed_as : {M V T A : Type 0} (view : M → V) (text : Text) (step : Steps V) (s : State) (old new later : Tokenizer M T A) (r : State)
    → view_config view later ≡ view_config view new → IsRefused r ⊎ HasFlushed view text step s old new r
    → IsRefused r ⊎ HasFlushed view text step s old later r
flushed_as view text step s old new later r e (inl h) = inl h
flushed_as {V = V} view text step s old new later r e (inr h) = inr (record {
  well = h.well;
  state = h.state;
  outcome = subst (λ (z : Config V). Outcome text step old.attempts.items (view_config view old) [] s z h.well) (sym e) h.outcome;
})

pub pushed_as : {M V T A : Type 0} (view : M → V) (steps : Context T → Steps V) (x y : Context T) (to : ℕ
    × ℕ) (end : Bool) (s : State) (old new later : Tokenizer M T A) (r : State) → x ≡ y → view_config view later ≡ view_config view new
    → later.attempts.items ≡ new.attempts.items → Around new later
    → HasPushed view (steps x) to end s old new r → HasPushed view (steps y) to end s old later r
pushed_as {V = V} {T = T} {A = A} view steps x y to end s old new later r e ec ea ar p =
    subst (λ (z : Context T). HasPushed view (steps z) to end s old later r) e (around_both old new later p.0 ar, there p.1)
  where
    there : IsRefused r ⊎ GoesAll view (steps x) (source old) to end s old new r → IsRefused r ⊎ GoesAll view (steps x) (source old) to end s old later r
    there (inl h) = inl h
    there (inr g) = inr (λ more limit on. record {
      back = λ d w o. (g more limit on).back d w (at_outcome (text_to more limit) (steps x) later.attempts.items new.attempts.items (view_config view later)
          (view_config view new) r r d w ea ec refl o);
    })

-- at the end nothing waits
pub ended_valid : {M V T A : Type 0} (view : M → V) (valid : HoldsAt V) (t : Tokenizer M T A) (r : State) → IsRefused r ⊎ HasEnded t r → IsRefused r
    ⊎ valid (view_config view t) t.attempts.items r → IsRefused r ⊎ valid (view_config view t) [] r
ended_valid view valid t r (inl h) k = inl h
ended_valid view valid t r (inr h) (inl k) = inl k
ended_valid view valid t r (inr h) (inr k) = inr (subst (λ (z : List Attempt). valid (view_config view t) z r) h.attempts k)

-- with nothing that waits, an outcome is a reading
pub whole_run : {M : Type 0} (text : Text) (step : Steps M) (c : Config M) (s : State) (d : Config M) (w : Bool) → Outcome text step [] c [] s d w
    → Runs text step c [] s d w
whole_run {M = M} text step c s d w o =
    subst (λ (z : Bool). Runs text step c [] s d z) o.unwinds.1 (subst (λ (z : Config M). Runs text step c [] s z o.how) o.unwinds.0 o.runs)

-- with nothing that waits at first, the text is read whole
pub whole_of : {M V T A : Type 0} (view : M → V) (step : Steps V) (from : Source) (old new : Tokenizer M T A) (s r : State) → old.attempts.items ≡ []
    → IsRefused r ⊎ HasFlushed view (text_to from (length from.bytes, 0)) step s old new r → IsRefused r ⊎ ReadWhole view from step s old new r
whole_of view step from old new s r f (inl h) = inl h
whole_of view step from old new s r f (inr h) =
    let text = text_to from (length from.bytes, 0) in
    let o : Outcome text step [] (view_config view old) [] s (view_config view new) h.well =
    subst (λ (z : List Attempt). Outcome text step z (view_config view old) [] s (view_config view new) h.well) f h.outcome in
    inr (record { well = h.well; state = h.state; runs = whole_run text step (view_config view old) s (view_config view new) h.well o })

pub at_once : {M V T A : Type 0} (view : M → V) (step : Steps V) (old new : Tokenizer M T A) (s r : State) → old.attempts.items ≡ [] → IsRefused r
    ⊎ HasFlushed view (text_to (source old) (length old.parse_state.now.bytes.now, 0)) step s old new r
    → IsRefused r ⊎ ReadWhole view (source old) step s old new r
at_once view step old new s r f h = whole_of view step (source old) old new s r f h

-- a line got a skip
pub skipped_as : {M T A : Type 0} (t u : Tokenizer M T A) (p : Point) → u.parse_state.now ≡ t.parse_state.now → u.skips.entries ≡ (with_skip (source t) p).skips
    → source u ≡ with_skip (source t) p
skipped_as {T = T} {A = A} t u p b k =
    let f = λ (bytes : List ℕ) (skips : List (ℕ × Point)). let s : Source = record { bytes = bytes; skips = skips } in s in
    ap (λ (z : ParseState T A). f z.bytes.now u.skips.entries) b ∙ ap (λ (z : List (ℕ × Point)). f t.parse_state.now.bytes.now z) k

-- two ranges are read as one text, however it goes on after the first
pub joined : {M V T A : Type 0} (view : M → V) (step : Steps V) (cut : ℕ × ℕ) (old mid later new : Tokenizer M T A) (s x r : State)
    → GoesOn (source old) cut false (source later) (length later.parse_state.now.bytes.now, 0)
    → view_config view later ≡ view_config view mid → later.attempts.items ≡ mid.attempts.items
    → Around old mid × (IsRefused x ⊎ GoesAll view step (source old) cut false s old mid x) → (IsRefused x → ⊥)
    → IsRefused r ⊎ HasFlushed view (text_to (source later) (length later.parse_state.now.bytes.now, 0)) step x later new r → IsRefused r
    ⊎ HasFlushed view (text_to (source later) (length later.parse_state.now.bytes.now, 0)) step s old new r
joined view step cut old mid later new s x r on ec es p n (inl h) = inl h
joined {V = V} view step cut old mid later new s x r on ec es p n (inr h) =
    let end : ℕ × ℕ = (length later.parse_state.now.bytes.now, 0) in
    let g = (unless_refused x n p.1) (source later) end on in
    let o = at_outcome (text_to (source later) end) step later.attempts.items mid.attempts.items (view_config view later) (view_config view mid) x x
    (view_config view new) h.well es ec refl h.outcome in
    inr (record { well = h.well; state = h.state; outcome = g.back (view_config view new) h.well o })

-- the same text goes on
pub same_goes_on : (s more : Source) (cut end : ℕ × ℕ) → more ≡ s → IsAfter cut end → GoesOn s cut false more end
same_goes_on s more cut end e after = record {
  bytes = ap (λ (z : Source). z.bytes) e;
  after = after;
  starts = λ p h. ap (λ (z : Source). place_in z.skips p) e;
  ends = λ f. absurd (let k : false ≡ true = f in cc);
}

-- a text goes on with a line that has a skip
pub skip_goes_on : (s : Source) (cut : ℕ) (p : Point) (end : ℕ × ℕ) → cut ≤ line_start s.bytes p.index → IsAfter (cut, 0) end
    → GoesOn s (cut, 0) false (with_skip s p) end
skip_goes_on s cut p end low after = record {
  bytes = refl;
  after = after;
  starts =
      λ q h. skip_later s.skips (line_start s.bytes p.index) p q (elim (before (cut, 0) q h) [
        | inl k ↦ omega arith
        | inr k ↦ absurd (let l = k.1 in
            omega arith)
      ]);
  ends = λ f. absurd (let k : false ≡ true = f in cc);
}

pub within : (cut : ℕ × ℕ) (n : ℕ) → cut.0 < n → IsAfter cut (n, 0)
within cut n low = record { index = omega arith; column = λ e. absurd (omega arith) }

pub not_refused : (s : State) → ((m : Bor Message) → s ≡ states.Error m → ⊥) → IsRefused s → ⊥
not_refused (states.Error m) h r = h m refl
not_refused (states.Next n) h r = r
not_refused (states.Retry n) h r = r
not_refused states.Ok h r = r
not_refused states.Nok h r = r

-- an error comes of want of memory
pub only_memory : {M : Type 0} (size : ℕ) (valid : HoldsAt M) (step : Steps M) (keeps : KeepsAt size valid step) (c : Config M) (stack : List Attempt)
    (s : State) (m : Bor Message) → s ≡ states.Error m → IsRefused s ⊎ valid c stack s → IsRefused s
only_memory size valid step keeps c stack s m e (inl r) = r
only_memory size valid step keeps c stack s m e (inr v) = absurd (keeps.no_error c stack m (subst (λ (z : State). valid c stack z) e v))

-- what reading range by range keeps
pub record Ranging {M V T A : Type 0} (view : M → V) (valid : HoldsAt V) (step : Steps V) (old : Tokenizer M T A) (given : State) (t : Tokenizer M T A)
    (s : State) (cuts : List (ℕ × ℕ)) : Type 0 where
  pub last : ℕ × ℕ
  pub cuts_left : AreCuts last cuts (length old.parse_state.now.bytes.now)
  pub within : IsAfter last (length old.parse_state.now.bytes.now, 0)
  pub around : Around old t
  pub holds : valid (view_config view t) t.attempts.items s
  pub reads : GoesAll view step (source old) last false given old t s

pub nothing_read : {M V T A : Type 0} (view : M → V) (valid : HoldsAt V) (step : Steps V) (old : Tokenizer M T A) (s : State) (cuts : List (ℕ × ℕ))
    → AreCuts (0, 0) cuts (length old.parse_state.now.bytes.now) → valid (view_config view old) old.attempts.items s → Ranging view valid step old s old s cuts
nothing_read view valid step old s cuts a v = record {
  last = (0, 0);
  cuts_left = a;
  within = record { index = omega arith; column = λ e. omega arith };
  around = record { parse_state = refl; skips = refl };
  holds = v;
  reads = λ more limit on. record { back = λ d w o. o };
}

-- a text that goes on after a later end goes on after an earlier one
goes_on_after : (s : Source) (from to : ℕ × ℕ) (more : Source) (limit : ℕ × ℕ) → IsAfter from to → GoesOn s to false more limit → GoesOn s from false more limit
goes_on_after s from to more limit h on = record {
  bytes = on.bytes;
  after = record {
    index = let i = h.index in let j = on.after.index in omega arith;
    column = λ e. let i = h.index in let j = on.after.index in
        let k = h.column (omega arith) in let l = on.after.column (omega arith) in omega arith;
  };
  starts = λ p e. on.starts p (before_later from to p h e);
  ends = λ f. absurd (let k : false ≡ true = f in cc);
}

pub range_read : {M V T A : Type 0} (view : M → V) (valid : HoldsAt V) (step : Steps V) (old t u : Tokenizer M T A) (given s x : State)
    (cuts rest : List (ℕ × ℕ)) (cut : ℕ × ℕ) → cuts ≡ cut ∷ rest → (IsRefused x → ⊥) → Ranging view valid step old given t s cuts
    → HasPushed view step cut false s t u x → IsRefused x ⊎ valid (view_config view u) u.attempts.items x → Ranging view valid step old given u x rest
range_read view valid step old t u given s x cuts rest cut e n h p v =
    let size = length old.parse_state.now.bytes.now in
    let left : AreCuts h.last (cut ∷ rest) size = subst (λ (z : List (ℕ × ℕ)). AreCuts h.last z size) e h.cuts_left in
    let same = around old t h.around in
    record {
      last = cut;
      cuts_left = left.2;
      within = within cut size left.1;
      around = around_both old t u h.around p.0;
      holds = unless_refused x n v;
      reads = λ more limit on. record {
        back = λ d w o. (h.reads more limit (goes_on_after (source old) h.last cut more limit left.0 on)).back d w
            ((unless_refused x n p.1 more limit (subst (λ (z : Source). GoesOn z cut false more limit) (sym same) on)).back d w o);
      };
    }

-- the next cut is a place to cut the text at
pub next_cut : {M V T A : Type 0} (view : M → V) (valid : HoldsAt V) (step : Steps V) (old t : Tokenizer M T A) (given s : State)
    (cuts rest : List (ℕ × ℕ)) (cut : ℕ × ℕ) → cuts ≡ cut ∷ rest → Ranging view valid step old given t s cuts → IsCut t.parse_state.now.bytes.now cut
next_cut view valid step old t given s cuts rest cut e h =
    let size = length old.parse_state.now.bytes.now in
    let left : AreCuts h.last (cut ∷ rest) size = subst (λ (z : List (ℕ × ℕ)). AreCuts h.last z size) e h.cuts_left in
    let low : cut.0 < size = left.1 in
    let bytes : t.parse_state.now.bytes.now ≡ old.parse_state.now.bytes.now = ap (λ (z : Source). z.bytes) (around old t h.around) in
    subst (λ (z : List ℕ). IsCut z cut) (sym bytes) (record { within = omega arith; column = λ e. absurd (omega arith) })

-- the same text may be cut there
pub same_cut : {M T A : Type 0} (t u : Tokenizer M T A) (to : ℕ × ℕ) → u.parse_state.now ≡ t.parse_state.now → IsCut t.parse_state.now.bytes.now to
    → IsCut u.parse_state.now.bytes.now to
same_cut {T = T} {A = A} t u to e h = subst (λ (z : ParseState T A). IsCut z.bytes.now to) (sym e) h

-- what is read with, and where reading is, by other names
pub valid_later : {M T : Type 0} (valid : Holds T M) (x y : Context T) (c d : Config M) (stack later : List Attempt) (s : State) → y ≡ x → d ≡ c
    → later ≡ stack → IsRefused s ⊎ valid x c stack s → IsRefused s ⊎ valid y d later s
valid_later {M = M} {T = T} valid x y c d stack later s e f g h =
    subst (λ (z : Context T). IsRefused s ⊎ valid z d later s) (sym e)
    (subst (λ (z : Config M). IsRefused s ⊎ valid x z later s) (sym f)
    (subst (λ (z : List Attempt). IsRefused s ⊎ valid x c z s) (sym g) h))

pub valid_alone : {M V T A : Type 0} (view : M → V) (valid : HoldsAt V) (t : Tokenizer M T A) (s : State) → t.attempts.items ≡ []
    → valid (view_config view t) [] s → valid (view_config view t) t.attempts.items s
valid_alone view valid t s e h = subst (λ (z : List Attempt). valid (view_config view t) z s) (sym e) h

pub valid_or_refused : {M T : Type 0} (valid : Holds T M) (x y : Context T) (c : Config M) (stack : List Attempt) (s : State) → x ≡ y → IsRefused s
    ⊎ valid x c stack s → IsRefused s ⊎ valid y c stack s
valid_or_refused {T = T} valid x y c stack s e h = subst (λ (z : Context T). IsRefused s ⊎ valid z c stack s) e h

-- the last range, up to the text's end
pub joined_ranges : {M V T A : Type 0} (view : M → V) (valid : HoldsAt V) (step : Steps V) (old mid new : Tokenizer M T A) (given s r : State)
    (cuts : List (ℕ × ℕ)) → Ranging view valid step old given mid s cuts
    → IsRefused r ⊎ HasFlushed view (text_to (source mid) (length mid.parse_state.now.bytes.now, 0)) step s mid new r → IsRefused r
    ⊎ HasFlushed view (text_to (source mid) (length mid.parse_state.now.bytes.now, 0)) step given old new r
joined_ranges view valid step old mid new given s r cuts h (inl k) = inl k
joined_ranges view valid step old mid new given s r cuts h (inr k) =
    let same = around old mid h.around in
    let size = ap (λ (z : Source). length z.bytes) same in
    let end : ℕ × ℕ = (length mid.parse_state.now.bytes.now, 0) in
    let on = same_goes_on (source old) (source mid) h.last end same (subst (λ (n : ℕ). IsAfter h.last (n, 0)) (sym size) h.within) in
    inr (record { well = k.well; state = k.state; outcome = (h.reads (source mid) end on).back (view_config view new) k.well k.outcome })

-- what holds of an error holds
pub on_error : {X E : Type 0} {P : Type 0} (r : Result X E) → is_err r ≡ true → OnErr r P → P
on_error (Ok x) e h = absurd (let f : false ≡ true = e in cc)
on_error (Err x) e h = h

-- an answer that is no error is well
pub unless_error : {X E : Type 0} {P : Type 0} (r : Result X E) → is_err r ≡ false → OnOk r P → P
unless_error (Ok x) e h = h
unless_error (Err x) e h = absurd (let f : true ≡ false = e in cc)
