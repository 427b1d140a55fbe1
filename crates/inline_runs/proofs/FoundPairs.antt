-- The pairs that are found are the definition's.
use Rattle.std.proofs.Common.{inl, inr, ◌≡◌, ℕ, zero, suc, ◌-◌, ◌<◌, ◌≤◌, List, [], ◌∷◌, ◌++◌, not, refl, sym, ap, ◌∙◌, reverse, arith, append_assoc}
use Rattle.inline_runs.proofs.Prelude.{append-nil, cases_lt, close, fold, is_eligible, nearest, next_run, OpenRun, pairing, Pairing, pairs, placed_from}
use Rattle.inline_runs.proofs.Prelude.{suffix_len-le-length, taken_by, takes_left, takes_some, up_to_nearest, with_pair, without}
use Rattle.definition_inline.specs.Attention.{Run}
use Rattle.definition_inline.specs.Pairing.{Pair, pair_of, pairs_after, steps}
use Rattle.definition_inline.proofs.NearestOpener.{NoneFrom, IsNearest}
use Rattle.definition_inline.proofs.RunPairs.{opens_next, closes_next, steps_next}
use Rattle.inline_runs.specs.FoundPairs.{found_pairs}
use Rattle.inline_runs.proofs.NearestOpener.{nearest_eligible, none_after}
use Rattle.inline_runs.proofs.ClosingRuns.{some_left, stops, goes_on}

-- what is found first, and then the pairs of the definition
abbrev found_before : Pairing → ℕ → List OpenRun → List Pair
found_before s most runs = s.pairs ++ pairs_after most (reverse s.openers) runs

-- these are all the pairs of the runs that are left, however many more steps there may be
abbrev AreAll : Pairing → List OpenRun → List Pair → Type 0
AreAll s runs all = (most : ℕ) → steps runs ≤ most → found_before s most runs ≡ all

none_found : (openers : List OpenRun) (c : OpenRun) → up_to_nearest openers c ≤ 0 → NoneFrom openers c 0
none_found openers c none j le lt = none_after openers c j (omega arith) lt

found_there : (openers : List OpenRun) (c : OpenRun) → 0 < up_to_nearest openers c → IsNearest openers c (up_to_nearest openers c - 1)
found_there openers c some =
    record {
      within = omega (arith, suffix_len-le-length (λ o. not (is_eligible o c)) openers);
      eligible = nearest_eligible openers c some;
      none = λ j past lt. none_after openers c j (omega arith) lt;
    }

passes : (n : ℕ) (s : Pairing) (c : OpenRun) (others : List OpenRun) (all : List Pair) → up_to_nearest s.openers c ≤ 0
    → AreAll (close n s c) others all → AreAll s (c ∷ others) all
passes n s c others all none rest zero enough = absurd (omega (arith, steps_next c others))
passes n s c others all none rest (suc most) enough =
    ap (λ ps. s.pairs ++ ps) (opens_next most s.openers c others (none_found s.openers c none))
    ∙ ap (λ (t : Pairing). found_before t most others) (sym (stops n s c none))
    ∙ rest most (omega (arith, steps_next c others))

closes : (n : ℕ) (s : Pairing) (c : OpenRun) (others : List OpenRun) (all : List Pair) → c.run.left ≤ n
    → AreAll (close n s c) others all → AreAll s (c ∷ others) all
closes zero s c others all fuel rest most enough =
    elim (cases_lt 0 (up_to_nearest s.openers c)) [
      | inl some ↦ absurd (some_left s c some fuel)
      | inr none ↦ passes zero s c others all none rest most enough
    ]
closes (suc n) s c others all fuel rest zero enough = absurd (omega (arith, steps_next c others))
closes (suc n) s c others all fuel rest (suc most) enough =
    elim (cases_lt 0 (up_to_nearest s.openers c)) [
      | inl some ↦
          let o = nearest s.openers c in
          let k = up_to_nearest s.openers c - 1 in
          let e = nearest_eligible s.openers c some in
          let a = takes_some o c e in
          let b = takes_left o c e in
          let left = without (taken_by o c) c in
          let now : AreAll (close n (with_pair s o c) left) others all =
          λ m h. ap (λ (t : Pairing). found_before t m others) (sym (goes_on n s c some)) ∙ rest m h in
          ap (λ ps. s.pairs ++ ps) (closes_next most s.openers c others k o (found_there s.openers c some) refl)
          ∙ sym (append_assoc s.pairs (pair_of o c ∷ []) (pairs_after most (reverse (with_pair s o c).openers) (left ∷ others)))
          ∙ closes n (with_pair s o c) left others all (omega arith) now most (omega (arith, steps_next c others, steps_next left others))
      | inr none ↦ passes (suc n) s c others all none rest (suc most) enough
    ]

all_found : (s : Pairing) (runs : List OpenRun) → AreAll s runs (fold next_run s runs).pairs
all_found s [] zero enough = append-nil s.pairs
all_found s [] (suc most) enough = append-nil s.pairs
all_found s (c ∷ others) most enough =
    closes c.run.left s c others (fold next_run (next_run s c) others).pairs (omega arith) (all_found (next_run s c) others) most enough

pub found_are_pairs : (runs : List Run) → found_pairs runs ≡ pairs runs
found_are_pairs runs = sym (all_found (pairing [] []) (placed_from 0 runs) (steps (placed_from 0 runs)) (omega arith))
