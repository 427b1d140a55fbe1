-- The pairs that the definition computes are those of the standard's words.
use Rattle.std.proofs.Common.{◌≡◌, ℕ, zero, suc, ◌+◌, ◌≤◌, List, [], ◌∷◌, ◌++◌, Bool, true, false, not, ◌&&◌, refl, sym, ap, ◌∙◌, get_or, take, reverse}
use Rattle.std.proofs.Common.{arith, subst}
use Rattle.std.specs.Prelude.{if◌then◌else◌, ◌==◌}
use Rattle.std.proofs.lemmas.List.{reverse-append}
use Rattle.std.proofs.lemmas.List.Sums.{sum_by-cons}
use Rattle.definition_inline.specs.Attention.{Run}
use Rattle.definition_inline.specs.Pairing.{OpenRun, taken_by, without, openers_of, pair_of, pair_or_open, pairs_after, steps, placed_from, pairs}
use Rattle.definition_inline.specs.RunPairs.{ArePairs, NoRuns, Opens, Closes}
use Rattle.definition_inline.proofs.NearestOpener.{NoneFrom, IsNearest, NoneFound, FoundAt, search, from_none, from_found}
use Rattle.definition_inline.proofs.PairBytes.{takes_some, takes_left}

at_most_one : (b : Bool) (p : OpenRun) → reverse (if b then p ∷ [] else []) ≡ (if b then p ∷ [] else [])
at_most_one true p = refl
at_most_one false p = refl

-- one more opener from left to right is the first from the end
one_more : (openers : List OpenRun) (p : OpenRun) → reverse (openers ++ openers_of p) ≡ openers_of p ++ reverse openers
one_more openers p =
    reverse-append openers (openers_of p) ∙ ap (λ ps. ps ++ reverse openers) (at_most_one (p.run.may_open && not (p.run.left == 0)) p)

-- ---- a step of the definition, over openers from left to right

-- with no opener found
pub opens_next : (most : ℕ) (openers : List OpenRun) (run : OpenRun) (others : List OpenRun) → NoneFrom openers run 0
    → pairs_after (suc most) (reverse openers) (run ∷ others) ≡ pairs_after most (reverse (openers ++ openers_of run)) others
opens_next most openers run others none =
    ap (λ found. pair_or_open found (reverse openers) run others (pairs_after most)) (from_none openers run none)
    ∙ ap (λ os. pairs_after most os others) (sym (one_more openers run))

-- with one found
pub closes_next : (most : ℕ) (openers : List OpenRun) (run : OpenRun) (others : List OpenRun) (k : ℕ) (o : OpenRun) → IsNearest openers run k
    → o ≡ get_or openers k run
    → pairs_after (suc most) (reverse openers) (run ∷ others)
    ≡ pair_of o run ∷ pairs_after most (reverse (take k openers ++ openers_of (without (taken_by o run) o))) (without (taken_by o run) run ∷ others)
closes_next most openers run others k o is there =
    ap (λ found. pair_or_open found (reverse openers) run others (pairs_after most)) (from_found openers run k is ∙ ap (λ x. x ∷ reverse (take k openers)) (sym there))
    ∙ ap (λ os. pair_of o run ∷ pairs_after most os (without (taken_by o run) run ∷ others)) (sym (one_more (take k openers) (without (taken_by o run) o)))

-- ---- how many steps are left

pub steps_next : (run : OpenRun) (others : List OpenRun) → steps (run ∷ others) ≡ 1 + run.run.left + steps others
steps_next run others = sum_by-cons (λ (p : OpenRun). 1 + p.run.left) run others

-- ---- all pairs

pub pairs_from : (most : ℕ) (openers runs : List OpenRun) → steps runs ≤ most → ArePairs openers runs (pairs_after most (reverse openers) runs)
pairs_from zero openers [] enough = NoRuns openers
pairs_from (suc most) openers [] enough = NoRuns openers
pairs_from zero openers (run ∷ others) enough = absurd (omega (arith, steps_next run others))
pairs_from (suc most) openers (run ∷ others) enough =
    elim (search openers run) [
      | NoneFound none ↦
          subst (ArePairs openers (run ∷ others)) (sym (opens_next most openers run others none))
          (Opens openers run others _ (λ j lt. none j (omega arith) lt)
          (pairs_from most (openers ++ openers_of run) others (omega (arith, steps_next run others))))
      | FoundAt k is ↦
          let o = get_or openers k run in
          let rest = without (taken_by o run) run in
          let some = takes_some o run is.eligible in
          let within = takes_left o run is.eligible in
          let before = take k openers ++ openers_of (without (taken_by o run) o) in
          subst (ArePairs openers (run ∷ others)) (sym (closes_next most openers run others k o is refl))
          (Closes openers run others _ k o is.within refl is.eligible (λ j past lt. is.none j (omega arith) lt)
          (pairs_from most before (rest ∷ others) (omega (arith, steps_next run others, steps_next rest others))))
    ]

-- the pairs of runs
pub are_pairs : (runs : List Run) → ArePairs [] (placed_from 0 runs) (pairs runs)
are_pairs runs = pairs_from (steps (placed_from 0 runs)) [] (placed_from 0 runs) (omega arith)
