-- What a list of codes begins and ends with, by its parts.
use Rattle.std.proofs.Common.{◌≡◌, ◌∙◌, ℕ, suc, ◌+◌, Bool, true, if◌then◌else◌, List, [], ◌∷◌, ◌++◌, length, take, drop, reverse, refl, ap, arith}
use Rattle.std.proofs.lemmas.Bool.{and_from, and_parts}
use Rattle.std.proofs.lemmas.List.{length-reverse, reverse-append}
use Rattle.std.specs.List.{list_all, prefix_len, suffix_len}

pub drop_over : (w rest : List ℕ) → drop (length w) (w ++ rest) ≡ rest
drop_over [] rest = refl
drop_over (x ∷ w) rest = drop_over w rest

pub take_over : (w rest : List ℕ) → take (length w) (w ++ rest) ≡ w
take_over [] rest = refl
take_over (x ∷ w) rest = ap (λ (l : List ℕ). x ∷ l) (take_over w rest)

module _ (p : ℕ → Bool) where
  -- a prefix of so many that pass
  pub prefix_over : (w rest : List ℕ) → list_all p w ≡ true → prefix_len p rest ≡ 0 → prefix_len p (w ++ rest) ≡ length w
  prefix_over [] rest all none = none
  prefix_over (x ∷ w) rest all none =
      let parts = and_parts (p x) (list_all p w) all in
      ap (λ (b : Bool). if b then 1 + prefix_len p (w ++ rest) else 0) parts.0
      ∙ (ap (λ (n : ℕ). 1 + n) (prefix_over w rest parts.1 none) ∙ (let e : 1 + length w ≡ suc (length w) = omega arith in e))

  pub all_both : (xs ys : List ℕ) → list_all p xs ≡ true → list_all p ys ≡ true → list_all p (xs ++ ys) ≡ true
  all_both [] ys h k = k
  all_both (x ∷ xs) ys h k = let parts = and_parts (p x) (list_all p xs) h in and_from (p x) (list_all p (xs ++ ys)) parts.0 (all_both xs ys parts.1 k)

  pub all_reverse : (xs : List ℕ) → list_all p xs ≡ true → list_all p (reverse xs) ≡ true
  all_reverse [] h = refl
  all_reverse (x ∷ xs) h =
      let parts = and_parts (p x) (list_all p xs) h in
      ap (list_all p) (reverse-append (x ∷ []) xs) ∙ all_both (reverse xs) (x ∷ []) (all_reverse xs parts.1) (and_from (p x) true parts.0 refl)

  -- a suffix of so many that pass
  pub suffix_over : (rest w : List ℕ) → suffix_len p rest ≡ 0 → list_all p w ≡ true → suffix_len p (rest ++ w) ≡ length w
  suffix_over rest w none all =
      ap (prefix_len p) (reverse-append rest w) ∙ (prefix_over (reverse w) (reverse rest) (all_reverse w all) none ∙ length-reverse w)
