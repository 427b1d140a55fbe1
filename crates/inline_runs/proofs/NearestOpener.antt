-- The nearest opener that may pair with a run.
use Rattle.std.proofs.Common.{◌≡◌, ℕ, ◌-◌, ◌<◌, ◌≤◌, List, Bool, true, false, not, sym, ap, ◌∙◌, length, get_or, reverse, arith}
use Rattle.std.specs.List.{suffix_len}
use Rattle.std.proofs.lemmas.Bool.{not-false, not-true}
use Rattle.std.proofs.lemmas.List.{get_or-reverse, length-reverse}
use Rattle.inline_runs.proofs.Prelude.{is_eligible, nearest, OpenRun, suffix_len-le-length, up_to_nearest}
use Rattle.std.proofs.lemmas.List.Sums.{suffix_len_is, prefix_len_stops, prefix_len_passes}

-- a place from which on no opener is eligible, and right before which one is
pub up_to_nearest_is : (openers : List OpenRun) (c : OpenRun) (n : ℕ) → n ≤ length openers
    → ((k : ℕ) → n ≤ k → k < length openers → is_eligible (get_or openers k c) c ≡ false)
    → (0 < n → is_eligible (get_or openers (n - 1) c) c ≡ true) → n ≡ up_to_nearest openers c
up_to_nearest_is openers c n le none found =
    let tail : suffix_len (λ o. not (is_eligible o c)) openers ≡ length openers - n =
    suffix_len_is (λ o. not (is_eligible o c)) openers n c le (λ k h l. ap not (none k h l)) (λ h. ap not (found h)) in
    omega arith

-- the last of the openers up to the nearest is eligible
pub nearest_eligible : (openers : List OpenRun) (c : OpenRun) → 0 < up_to_nearest openers c → is_eligible (nearest openers c) c ≡ true
nearest_eligible openers c some =
    let p : OpenRun → Bool = λ o. not (is_eligible o c) in
    let n = suffix_len p openers in
    let lt : n < length openers = omega arith in
    let lt2 : n < length (reverse openers) = omega (arith, length-reverse openers) in
    let stops : not (is_eligible (get_or (reverse openers) n c) c) ≡ false = prefix_len_stops p (reverse openers) c lt2 in
    let place : length openers - 1 - n ≡ up_to_nearest openers c - 1 = omega arith in
    let there : get_or (reverse openers) n c ≡ nearest openers c = get_or-reverse openers n c lt ∙ ap (λ k. get_or openers k c) place in
    ap (λ o. is_eligible o c) (sym there) ∙ not-false _ stops

-- no opener from there on is eligible
pub none_after : (openers : List OpenRun) (c : OpenRun) (j : ℕ) → up_to_nearest openers c ≤ j → j < length openers → is_eligible (get_or openers j c) c ≡ false
none_after openers c j le lt =
    let p : OpenRun → Bool = λ o. not (is_eligible o c) in
    let n = suffix_len p openers in
    let k = length openers - 1 - j in
    let early : k < n = omega (arith, suffix_len-le-length p openers) in
    let inside : k < length openers = omega arith in
    let place : length openers - 1 - k ≡ j = omega arith in
    let passes : not (is_eligible (get_or (reverse openers) k c) c) ≡ true = prefix_len_passes p (reverse openers) k c early in
    let there : get_or (reverse openers) k c ≡ get_or openers j c = get_or-reverse openers k c inside ∙ ap (λ i. get_or openers i c) place in
    ap (λ o. is_eligible o c) (sym there) ∙ not-true _ passes
