-- Searches for the nearest opener, and floors.
use Rattle.std.proofs.Common.{inl, inr, ◌≡◌, Bool, ℕ, ◌-◌, ◌<◌, ◌≤◌, List, [], ◌∷◌, ◌++◌, take, false, refl, sym, ap, ◌∙◌, length, get_or, arith, subst}
use Rattle.inline_runs.proofs.Prelude.{All, All-push, All-weaker, AreOpenersAt, cases_lt, fits, FitsAt, get_or-take, get_or_append_left, get_or_default}
use Rattle.inline_runs.proofs.Prelude.{IsFloorOf, length-append, Opener, run_view, Want}
use Rattle.std.proofs.lemmas.List.{get_or-append_right, length-take}
use Rattle.std.proofs.lemmas.List.Elements.{All-take}
use Rattle.inline_runs.specs.declared.openers.Openers.{Openers}
use Rattle.inline_runs.specs.Floors.{IsFloor}

-- whether an opener fits, whatever it is read by
pub fits_at : (openers : List Opener) (w : Want) (n : ℕ) (e : Opener) {whether : Bool} → n < length openers
    → fits (run_view (get_or openers n e).placed.run) w ≡ whether → FitsAt openers n w whether
fits_at openers w n e lt is d = ap (λ (o : Opener). fits (run_view o.placed.run) w) (get_or_default openers n d e lt) ∙ is

-- one more opener that doesn't fit
pub one_less : (openers : List Opener) (w : Want) (n : ℕ) (e : Opener) → 0 < n → n ≤ length openers
    → fits (run_view (get_or openers (n - 1) e).placed.run) w ≡ false
    → ((k : ℕ) → n ≤ k → k < length openers → FitsAt openers k w false)
    → (k : ℕ) → n - 1 ≤ k → k < length openers → FitsAt openers k w false
one_less openers w n e some le fails none k h lt d =
    elim (cases_lt k n) [
      | inl below ↦
          let here : n - 1 ≡ k = omega arith in
          ap (λ (o : Opener). fits (run_view o.placed.run) w) (get_or_default openers k d e lt ∙ ap (λ j. get_or openers j e) (sym here)) ∙ fails
      | inr above ↦ none k above lt d
    ]

-- an opener that is older than the floor
pub below_floor : (openers : List Opener) (w : Want) (floor n : ℕ) (e : Opener) → 0 < n → n ≤ length openers → (get_or openers (n - 1) e).since < floor
    → IsFloor openers w floor
    → ((k : ℕ) → n ≤ k → k < length openers → FitsAt openers k w false)
    → (k : ℕ) → k < length openers → FitsAt openers k w false
below_floor openers w floor n e some le older is_floor none k lt d =
    elim (cases_lt k n) [
      | inl below ↦
          let same = get_or_default openers (n - 1) e d (omega arith) in
          is_floor.none (n - 1) k d (omega arith) (subst (λ (o : Opener). o.since < floor) same older) (omega arith)
      | inr above ↦ none k above lt d
    ]

-- where no opener fits, any place is a floor
pub new_floor : (openers : List Opener) (want : Want) (now : ℕ) → ((k : ℕ) → k < length openers → FitsAt openers k want false)
    → IsFloorOf openers now (record { want = want; place = now })
new_floor openers want now none = record { past = omega arith; floor = record { none = λ k j d lt before le. none j (omega arith) d } }

-- a floor stays one where only the first openers are left
floor_taken : (openers : List Opener) (n : ℕ) (w : Want) (floor : ℕ) → IsFloor openers w floor → IsFloor (take n openers) w floor
floor_taken openers n w floor is = record {
  none = λ k j d lt older le.
      let within : k < n = omega (arith, length-take n openers) in
      let inside : k < length openers = omega (arith, length-take n openers) in
      ap (λ (o : Opener). fits (run_view o.placed.run) w) (get_or-take n openers j d (omega arith))
      ∙ is.none k j d inside (subst (λ (o : Opener). o.since < floor) (get_or-take n openers k d within) older) le;
}

-- and where an opener comes that is no older
floor_pushed : (openers : List Opener) (o : Opener) (w : Want) (floor : ℕ) → floor ≤ o.since → IsFloor openers w floor → IsFloor (openers ++ o ∷ []) w floor
floor_pushed openers o w floor young is = record {
  none = λ k j d lt older le.
      elim (cases_lt k (length openers)) [
        | inl before ↦
            ap (λ (x : Opener). fits (run_view x.placed.run) w) (get_or_append_left openers (o ∷ []) d j (omega arith))
            ∙ is.none k j d before (subst (λ (x : Opener). x.since < floor) (get_or_append_left openers (o ∷ []) d k before) older) le
        | inr last ↦
            let there : k - length openers ≡ 0 = omega (arith, length-append openers (o ∷ [])) in
            let same = get_or-append_right openers (o ∷ []) (length openers) k d refl last ∙ ap (λ i. get_or (o ∷ []) i d) there in
            let early : o.since < floor = subst (λ (x : Opener). x.since < floor) same older in
            absurd (omega arith)
      ];
}

-- what is known of openers is known later
pub known_later : {A : Type 0} (o : Openers A) (now later : ℕ) → now ≤ later → AreOpenersAt o now → AreOpenersAt o later
known_later o now later le known = record {
  early = All-weaker (λ (p : Opener). p.placed.place < now) (λ (p : Opener). p.placed.place < later) (λ p h. omega arith) o.openers.items known.early;
  floors =
      All-weaker (IsFloorOf o.openers.items now) (IsFloorOf o.openers.items later) (λ f h. let past = h.past in record { past = omega arith; floor = h.floor })
      o.floors.items known.floors;
}

-- and of the first of them
pub known_taken : {A : Type 0} (old new : Openers A) (n now : ℕ) → new.openers.items ≡ take n old.openers.items → new.floors.items ≡ old.floors.items
    → AreOpenersAt old now → AreOpenersAt new now
known_taken old new n now is same known = record {
  early = subst (λ os. All (λ (p : Opener). p.placed.place < now) os) (sym is)
      (All-take (λ (p : Opener). p.placed.place < now) n old.openers.items known.early);
  floors =
      subst (λ os. All (IsFloorOf os now) new.floors.items) (sym is)
      (subst (λ fs. All (IsFloorOf (take n old.openers.items) now) fs) (sym same)
      (All-weaker (IsFloorOf old.openers.items now) (IsFloorOf (take n old.openers.items) now)
      (λ f h. record { past = h.past; floor = floor_taken old.openers.items n f.want f.place h.floor }) old.floors.items known.floors));
}

-- and with an opener that is as it is since now
pub known_pushed : {A : Type 0} (old new : Openers A) (o : Opener) (now later : ℕ) → new.openers.items ≡ old.openers.items ++ o ∷ []
    → new.floors.items ≡ old.floors.items → o.since ≡ now → now ≤ later → o.placed.place < later → AreOpenersAt old now → AreOpenersAt new later
known_pushed old new o now later is same since le early known =
    let before = known_later old now later le known in
    record {
      early =
          subst (λ os. All (λ (p : Opener). p.placed.place < later) os) (sym is)
          (All-push (λ (p : Opener). p.placed.place < later) old.openers.items o before.early early);
      floors =
          subst (λ os. All (IsFloorOf os later) new.floors.items) (sym is)
          (subst (λ fs. All (IsFloorOf (old.openers.items ++ o ∷ []) later) fs) (sym same)
          (All-weaker (IsFloorOf old.openers.items now) (IsFloorOf (old.openers.items ++ o ∷ []) later)
          (λ f h. let past = h.past in record { past = omega arith; floor = floor_pushed old.openers.items o f.want f.place (omega arith) h.floor })
          old.floors.items known.floors));
    }
