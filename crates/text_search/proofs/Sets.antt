-- A set that holds the bytes that pass a test.
use Rattle.std.proofs.Common.{◌≡◌, ℕ, suc, ◌+◌, Bool, true, not, cond, List, [], ◌∷◌, get_or, Fits, w8, refl, sym, ap, ◌∙◌}
use Rattle.std.proofs.lemmas.Bool.{agree_below, agree_below_at}
use Rattle.std.proofs.lemmas.List.Sums.{fails_before_first, passes_at_first, position_or_len_is, prefix_len-le-length}
use Rattle.std.specs.List.{position_or_len, prefix_len}

-- the first byte that passes p, where q agrees with p on bytes
pub first_by : (p q : ℕ → Bool) (xs : List ℕ) → agree_below p q 256 ≡ true → ((k : ℕ) → Fits w8 (get_or xs k 0)) → position_or_len p xs ≡ position_or_len q xs
first_by p q xs agree fits =
    let same = λ (k : ℕ). agree_below_at p q 256 (get_or xs k 0) agree (fits k).fits in
    sym (position_or_len_is q xs (position_or_len p xs) 0 (prefix_len-le-length _ xs)
    (λ k before. sym (same k) ∙ fails_before_first p xs k 0 before)
    (λ inside. sym (same (position_or_len p xs)) ∙ passes_at_first p xs 0 inside))

-- how many bytes pass q, where q agrees with what p doesn't pass
pub run_by : (p q : ℕ → Bool) (xs : List ℕ) → agree_below (λ b. not (p b)) q 256 ≡ true → ((k : ℕ) → Fits w8 (get_or xs k 0))
    → position_or_len p xs ≡ prefix_len q xs
run_by p q [] agree fits = refl
run_by p q (x ∷ xs) agree fits =
    let first : not (p x) ≡ q x = agree_below_at (λ b. not (p b)) q 256 x agree (fits 0).fits in
    ap (λ passes. cond passes (1 + position_or_len p xs) 0) first
    ∙ ap (λ n. cond (q x) (1 + n) 0) (run_by p q xs agree (λ k. fits (suc k)))
