-- The nearest opener that may pair with a run, by its place among the openers from left to right.
use Rattle.std.proofs.Common.{inl, inr, ◌≡◌, ℕ, suc, ◌+◌, ◌-◌, ◌<◌, ◌≤◌, List, [], ◌∷◌, ◌++◌, Bool, true, false, not, sym, ap, ap₂, ◌∙◌, length, get_or, take, drop}
use Rattle.std.proofs.Common.{reverse, arith, length-drop, drop-cons}
use Rattle.std.specs.List.{suffix_len}
use Rattle.std.proofs.Math.Seq.{drop-append_seam}
use Rattle.std.proofs.lemmas.Bool.{cases_lt, not-false, not-true}
use Rattle.std.proofs.lemmas.List.{get_or-reverse, length-reverse, reverse-append, take-append-drop, drop_all}
use Rattle.std.proofs.lemmas.List.Sums.{suffix_len_is, suffix_len-le-length, prefix_len_stops, prefix_len_passes}
use Rattle.definition_inline.specs.Pairing.{OpenRun, is_eligible, from_nearest}

-- no opener from a place on is eligible
abbrev pub NoneFrom : List OpenRun → OpenRun → ℕ → Type 0
NoneFrom openers c n = (k : ℕ) → n ≤ k → k < length openers → is_eligible (get_or openers k c) c ≡ false

-- the place of the nearest eligible opener
pub record IsNearest (openers : List OpenRun) (c : OpenRun) (k : ℕ) : Type 0 where
  pub within : k < length openers
  pub eligible : is_eligible (get_or openers k c) c ≡ true
  pub none : NoneFrom openers c (k + 1)

pub data Search (openers : List OpenRun) (c : OpenRun) : Type 0 where
  NoneFound : NoneFrom openers c 0 → Search openers c
  FoundAt : (k : ℕ) → IsNearest openers c k → Search openers c

-- how many at the end aren't eligible
abbrev tail_size : List OpenRun → OpenRun → ℕ
tail_size openers c = suffix_len (λ o. not (is_eligible o c)) openers

none_in_tail : (openers : List OpenRun) (c : OpenRun) (j : ℕ) → length openers - tail_size openers c ≤ j → j < length openers
    → is_eligible (get_or openers j c) c ≡ false
none_in_tail openers c j le lt =
    let p : OpenRun → Bool = λ o. not (is_eligible o c) in
    let n = suffix_len p openers in
    let k = length openers - 1 - j in
    let early : k < n = omega (arith, suffix_len-le-length p openers) in
    let inside : k < length openers = omega arith in
    let place : length openers - 1 - k ≡ j = omega arith in
    let passes : not (is_eligible (get_or (reverse openers) k c) c) ≡ true = prefix_len_passes p (reverse openers) k c early in
    let there : get_or (reverse openers) k c ≡ get_or openers j c = get_or-reverse openers k c inside ∙ ap (λ i. get_or openers i c) place in
    ap (λ o. is_eligible o c) (sym there) ∙ not-true _ passes

before_tail : (openers : List OpenRun) (c : OpenRun) → tail_size openers c < length openers
    → is_eligible (get_or openers (length openers - 1 - tail_size openers c) c) c ≡ true
before_tail openers c lt =
    let p : OpenRun → Bool = λ o. not (is_eligible o c) in
    let n = suffix_len p openers in
    let inside : n < length (reverse openers) = omega (arith, length-reverse openers) in
    let stops : not (is_eligible (get_or (reverse openers) n c) c) ≡ false = prefix_len_stops p (reverse openers) c inside in
    ap (λ o. is_eligible o c) (sym (get_or-reverse openers n c lt)) ∙ not-false _ stops

-- an opener is found, or there is none
pub search : (openers : List OpenRun) (c : OpenRun) → Search openers c
search openers c =
    let n = tail_size openers c in
    elim (cases_lt n (length openers)) [
      | inl lt ↦
          FoundAt (length openers - 1 - n)
          (record {
            within = omega arith;
            eligible = before_tail openers c lt;
            none = λ j le under. none_in_tail openers c j (omega arith) under;
          })
      | inr past ↦ NoneFound (λ j le under. none_in_tail openers c j (omega arith) under)
    ]

-- what is before a place, from the end
before_place : (openers : List OpenRun) (k : ℕ) → k ≤ length openers → drop (length openers - k) (reverse openers) ≡ reverse (take k openers)
before_place openers k le =
    let back : reverse openers ≡ reverse (drop k openers) ++ reverse (take k openers) =
    ap reverse (sym (take-append-drop k openers)) ∙ reverse-append (take k openers) (drop k openers) in
    let size : length openers - k ≡ length (reverse (drop k openers)) = sym (length-reverse (drop k openers) ∙ length-drop k openers) in
    ap₂ drop size back ∙ drop-append_seam (reverse (drop k openers)) (reverse (take k openers))

-- the search of the definition, whose openers have the nearest first, with no opener found
pub from_none : (openers : List OpenRun) (c : OpenRun) → NoneFrom openers c 0 → from_nearest (reverse openers) c ≡ []
from_none openers c none =
    let tail : tail_size openers c ≡ length openers - 0 =
    suffix_len_is (λ o. not (is_eligible o c)) openers 0 c (omega arith) (λ k h l. ap not (none k h l)) (λ h. absurd (omega arith)) in
    drop_all (tail_size openers c) (reverse openers) (omega (arith, length-reverse openers))

-- with one found
pub from_found : (openers : List OpenRun) (c : OpenRun) (k : ℕ) → IsNearest openers c k
    → from_nearest (reverse openers) c ≡ get_or openers k c ∷ reverse (take k openers)
from_found openers c k is =
    let lt : k < length openers = is.within in
    let last : k + 1 - 1 ≡ k = omega arith in
    let tail : tail_size openers c ≡ length openers - (k + 1) =
    suffix_len_is (λ o. not (is_eligible o c)) openers (k + 1) c (omega arith) (λ j h l. ap not (is.none j h l))
    (λ h. ap (λ n. not (is_eligible (get_or openers n c) c)) last ∙ ap not is.eligible) in
    let m = length openers - (k + 1) in
    let inside : m < length openers = omega arith in
    let place : length openers - 1 - m ≡ k = omega arith in
    let rest : suc m ≡ length openers - k = omega arith in
    ap (λ n. drop n (reverse openers)) tail ∙ drop-cons (reverse openers) m c (omega (arith, length-reverse openers))
    ∙ ap₂ (λ x xs. x ∷ xs) (get_or-reverse openers m c inside ∙ ap (λ n. get_or openers n c) place)
    (ap (λ n. drop n (reverse openers)) rest ∙ before_place openers k (omega arith))
