-- An `@` among bytes.
use Rattle.std.proofs.Common.{◌≡◌, ℕ, suc, ◌+◌, List, [], ◌∷◌, Bool, not, ◌||◌, eqb, ltb, cond, refl, sym, ap, ◌∙◌, length, arith, inl, inr}
use Rattle.inline_addresses.proofs.Prelude.{cases_Bool, list_any}
use Rattle.std.specs.List.{position_or_len}
use Rattle.std.proofs.lemmas.Bool.{cases_lt, lt-ltb, le-ltb}

-- an `@`, which is both of a pair
abbrev is_at : ℕ → Bool
is_at b = eqb b 64 || eqb b 64

after : (n m k : ℕ) → k ≡ 1 + n → ltb k (suc m) ≡ ltb n m
after n m k e = elim (cases_lt n m) [
  | inl lt ↦ lt-ltb k (suc m) (omega (arith, lt, e)) ∙ sym (lt-ltb n m lt)
  | inr ge ↦ le-ltb k (suc m) (omega (arith, ge, e)) ∙ sym (le-ltb n m ge)
]

-- the first stands before the end if there is one
pub any_before_end : (bytes : List ℕ) → ltb (position_or_len is_at bytes) (length bytes) ≡ list_any (λ b. eqb b 64) bytes
any_before_end [] = refl
any_before_end (b ∷ bs) =
    let n = position_or_len is_at bs in
    elim (cases_Bool (eqb b 64)) [
      | inl is ↦
          ap (λ x. ltb (cond (not (x || x)) (1 + n) 0) (suc (length bs))) is
          ∙ lt-ltb 0 (suc (length bs)) (omega arith)
          ∙ sym (ap (λ x. x || list_any (λ c. eqb c 64) bs) is)
      | inr other ↦
          ap (λ x. ltb (cond (not (x || x)) (1 + n) 0) (suc (length bs))) other
          ∙ after n (length bs) (1 + n) refl ∙ any_before_end bs
          ∙ sym (ap (λ x. x || list_any (λ c. eqb c 64) bs) other)
    ]
