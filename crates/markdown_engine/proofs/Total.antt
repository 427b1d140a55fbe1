-- Reading ends: whatever holds has an outcome.
use Rattle.std.proofs.Common.{◌≡◌, ℕ, zero, suc, ◌+◌, ◌<◌, ◌≤◌, ◌++◌, [], ◌∷◌, length, map, List, Bool, true, false, refl, sym, subst, arith, ◌⊎◌, inl, inr}
use Rattle.markdown_engine.proofs.Prelude.{Attempt, byte_before, Config, continuation, end_state, feed, HoldsAt, IsFed, LawfulAt, mark, Name, OnlyAdds}
use Rattle.markdown_engine.proofs.Prelude.{place_in, Point, RanksAt, Source, State, state_after, Steps, Text, text_to}
use Rattle.engine_states.specs.declared.state.State.TheVariants as states
use Rattle.markdown_engine.specs.Outcomes.{HasOutcome, HasRun}
use Rattle.markdown_engine.proofs.Outcomes.{ends, outcome_pop, outcome_retry, outcome_next}
use Rattle.markdown_engine.proofs.Falls.{is_fed}

-- an attempt is the innermost of a stack
abbrev pub IsLast : List Attempt → List Attempt → Attempt → Type 0
IsLast stack rest a = stack ≡ rest ++ a ∷ []

-- a stack from its end
pub last_of : (stack : List Attempt) → (stack ≡ []) ⊎ ((rest : List Attempt) × (a : Attempt) × IsLast stack rest a)
last_of [] = inl refl
last_of (a ∷ stack) = elim (last_of stack) [
  | inl e ↦ inr ([], a, rw e refl)
  | inr (rest, b, e) ↦ inr (a ∷ rest, b, rw e refl)
]

module _ {M : Type 0} (text : Text) (step : Steps M) where
  -- an end, where each attempt that may wait has an outcome
  pop : (v : Bool) (c : Config M) (stack : List Attempt) → ((rest : List Attempt) (a : Attempt) → IsLast stack rest a
      → HasOutcome text step (continuation a c v) rest (state_after a v)) → HasOutcome text step c stack (end_state v)
  pop v c stack h = elim (last_of stack) [
    | inl e ↦ subst (λ (z : List Attempt). HasOutcome text step c z (end_state v)) (sym e) (
      c,
      v,
      record { mid = c; how = v; runs = ends text step v c; unwinds = (refl, refl) },
    )
    | inr (rest, a, e) ↦ (
        let (d, w, o) = h rest a e in
        subst (λ (z : List Attempt). HasOutcome text step c z (end_state v)) (sym e) (d, w, outcome_pop text step v rest a c d w o))
  ]

  retried : OnlyAdds step → (c : Config M) (stack : List Attempt) (n : Name) → let e = step c n in
      HasOutcome text step e.config (stack ++ map mark e.pushed) e.state → HasOutcome text step c stack (states.Retry n)
  retried adds c stack n (d, w, o) = (d, w, outcome_retry text step adds stack c n d w o)

  gone_on : OnlyAdds step → (c : Config M) (stack : List Attempt) (n : Name) → let e = step (feed text c) n in
      HasOutcome text step e.config (stack ++ map mark e.pushed) e.state → HasOutcome text step c stack (states.Next n)
  gone_on adds c stack n (d, w, o) = (d, w, outcome_next text step adds stack c n d w o)

  -- with nothing that waits, the outcome is a reading
  run_of : (c : Config M) (s : State) → HasOutcome text step c [] s → HasRun text step c s
  run_of c s (d, w, o) = (o.mid, o.how, o.runs)

-- a text that is read up to an index and a column of a tab there feeds
pub feeds_to : (s : Source) (to : ℕ × ℕ) → to.0 ≤ length s.bytes → (to.0 ≡ length s.bytes → to.1 ≡ 0) → (p : Point) → let text = text_to s to in
    IsFed (length s.bytes) p (text.start p) (text.byte (text.start p))
feeds_to s to h k p = let place = place_in s.skips p in is_fed s.bytes s.skips to p place (byte_before s.bytes to place) h k refl refl

module _ {M : Type 0} (size : ℕ) (valid : HoldsAt M) (step : Steps M) (rank : RanksAt M) (lawful : LawfulAt size valid step rank) (text : Text)
    (fed : (p : Point) → IsFed size p (text.start p) (text.byte (text.start p))) where
  below : (n : ℕ) (c : Config M) (stack : List Attempt) (s : State) → rank c stack s < n → valid c stack s → HasOutcome text step c stack s
  below zero c stack s low h = absurd (omega arith)
  below (suc n) c stack (states.Error m) low h = absurd (lawful.keeps.no_error c stack m h)
  below (suc n) c stack (states.Next name) low h =
      let place = text.start c.point in
      let byte = text.byte place in
      let held = lawful.keeps.fed c stack name place byte (fed c.point) h in
      let most = lawful.falls.fed c stack name place byte h (fed c.point) in
      let less = lawful.falls.called (feed text c) stack name held in
      let e = step (feed text c) name in
      gone_on text step lawful.adds c stack name (below n e.config (stack ++ map mark e.pushed) e.state (omega arith)
      (lawful.keeps.called (feed text c) stack name held))
  below (suc n) c stack (states.Retry name) low h =
      let less = lawful.falls.called c stack name h in
      let e = step c name in
      retried text step lawful.adds c stack name (below n e.config (stack ++ map mark e.pushed) e.state (omega arith) (lawful.keeps.called c stack name h))
  below (suc n) c stack states.Ok low h = pop text step true c stack (λ rest a e.
      let held = subst (λ (z : List Attempt). valid c z states.Ok) e h in
      let least = subst (λ (z : List Attempt). rank c z states.Ok < suc n) e low in
      let less = lawful.falls.ok c rest a held in
      below n (continuation a c true) rest a.ok (omega arith) (lawful.keeps.ok c rest a held))
  below (suc n) c stack states.Nok low h = pop text step false c stack (λ rest a e.
      let held = subst (λ (z : List Attempt). valid c z states.Nok) e h in
      let least = subst (λ (z : List Attempt). rank c z states.Nok < suc n) e low in
      let less = lawful.falls.nok c rest a held in
      below n (continuation a c false) rest a.nok (omega arith) (lawful.keeps.nok c rest a held))

  -- whatever holds has an outcome
  pub has_outcome : (c : Config M) (stack : List Attempt) (s : State) → valid c stack s → HasOutcome text step c stack s
  has_outcome c stack s h = below (rank c stack s + 1) c stack s (omega arith) h

  -- with nothing that waits, it is read
  pub has_run : (c : Config M) (s : State) → valid c [] s → HasRun text step c s
  has_run c s h = run_of text step c s (has_outcome c [] s h)

-- whatever holds is read to the end of the bytes
pub has_whole_run : {M : Type 0} (s : Source) (valid : HoldsAt M) (step : Steps M) (rank : RanksAt M) → LawfulAt (length s.bytes) valid step rank
    → (c : Config M) (state : State) → valid c [] state → HasRun (text_to s (length s.bytes, 0)) step c state
has_whole_run s valid step rank lawful c state h =
    let size = length s.bytes in
    has_run size valid step rank lawful (text_to s (size, 0)) (feeds_to s (size, 0) (omega arith) (λ e. refl)) c state h
