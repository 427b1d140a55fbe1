-- Code without the backslashes that escape bars, piece by piece.
use Rattle.std.proofs.Common.{◌≡◌, ◌≢◌, ℕ, suc, ◌<◌, ◌≤◌, true, eqb, List, [], ◌∷◌, ◌++◌, refl, sym, ap, ◌∙◌, length, drop, take, get_or, append_assoc, arith}
use Rattle.std.proofs.Common.{inl, inr}
use Rattle.html_inline.proofs.Prelude.{and_parts, bar_escape_at, cases_Bool, cell_code, cond-false, cond-true, encode, encoded_byte, eqb-true, flat_map-append}
use Rattle.html_inline.proofs.Prelude.{IsCharBoundary, length-drop}
use Rattle.definition_page.specs.GfmTable.{escapes_bar}

is_backslash : (c : ℕ) (cs : List ℕ) → escapes_bar c cs ≡ true → c ≡ 92
is_backslash c cs h = eqb-true c 92 (and_parts (eqb c 92) _ h).0

pub escape_within : (cs : List ℕ) → bar_escape_at cs ≤ length cs
escape_within [] = omega arith
escape_within (c ∷ cs) =
    elim (cases_Bool (escapes_bar c cs)) [
      | inl h ↦ let e = cond-true (escapes_bar c cs) 0 (suc (bar_escape_at cs)) h in omega (arith, e)
      | inr h ↦
          let e = cond-false (escapes_bar c cs) 0 (suc (bar_escape_at cs)) h in
          let le = escape_within cs in
          omega (arith, e, le)
    ]

backslash_at : (cs : List ℕ) → bar_escape_at cs < length cs → get_or cs (bar_escape_at cs) 0 ≡ 92
backslash_at [] lt = absurd (omega (arith, lt))
backslash_at (c ∷ cs) lt =
    elim (cases_Bool (escapes_bar c cs)) [
      | inl h ↦
          let e : bar_escape_at (c ∷ cs) ≡ 0 = cond-true (escapes_bar c cs) 0 _ h in
          ap (λ k. get_or (c ∷ cs) k 0) e ∙ is_backslash c cs h
      | inr h ↦
          let e : bar_escape_at (c ∷ cs) ≡ suc (bar_escape_at cs) = cond-false (escapes_bar c cs) 0 _ h in
          ap (λ k. get_or (c ∷ cs) k 0) e ∙ backslash_at cs (omega (arith, e, lt))
    ]

pub boundary_escape : (cs : List ℕ) → IsCharBoundary cs (bar_escape_at cs)
boundary_escape cs = (escape_within cs, λ lt high. let is = backslash_at cs lt in absurd (omega (arith, is, high)))

-- up to the first escape code stands as it is
code_before : (cs : List ℕ) → cell_code cs ≡ take (bar_escape_at cs) cs ++ cell_code (drop (bar_escape_at cs) cs)
code_before [] = refl
code_before (c ∷ cs) =
    elim (cases_Bool (escapes_bar c cs)) [
      | inl h ↦
          let e : bar_escape_at (c ∷ cs) ≡ 0 = cond-true (escapes_bar c cs) 0 _ h in
          sym (ap (λ k. take k (c ∷ cs) ++ cell_code (drop k (c ∷ cs))) e)
      | inr h ↦
          let e : bar_escape_at (c ∷ cs) ≡ suc (bar_escape_at cs) = cond-false (escapes_bar c cs) 0 _ h in
          cond-false (escapes_bar c cs) _ _ h ∙ ap (λ l. c ∷ l) (code_before cs) ∙ sym (ap (λ k. take k (c ∷ cs) ++ cell_code (drop k (c ∷ cs))) e)
    ]

-- the backslash isn't printed
code_after : (cs rest : List ℕ) → drop (bar_escape_at cs) cs ≡ 92 ∷ rest → cell_code (drop (bar_escape_at cs) cs) ≡ cell_code rest
code_after [] rest e = absurd (omega (arith, ap length e))
code_after (c ∷ cs) rest e =
    elim (cases_Bool (escapes_bar c cs)) [
      | inl h ↦
          let n : bar_escape_at (c ∷ cs) ≡ 0 = cond-true (escapes_bar c cs) 0 _ h in
          let same : cs ≡ rest = ap (drop 1) (sym (ap (λ k. drop k (c ∷ cs)) n) ∙ e) in
          ap (λ k. cell_code (drop k (c ∷ cs))) n ∙ cond-true (escapes_bar c cs) _ _ h ∙ ap cell_code same
      | inr h ↦
          let n : bar_escape_at (c ∷ cs) ≡ suc (bar_escape_at cs) = cond-false (escapes_bar c cs) 0 _ h in
          ap (λ k. cell_code (drop k (c ∷ cs))) n ∙ code_after cs rest (sym (ap (λ k. drop k (c ∷ cs)) n) ∙ e)
    ]

-- where no escape stands, something stands before it
some_before : (cs : List ℕ) → 0 < length cs → ((rest : List ℕ) → drop (bar_escape_at cs) cs ≢ 92 ∷ rest) → 0 < bar_escape_at cs
some_before [] some none = absurd (omega (arith, some))
some_before (c ∷ cs) some none =
    elim (cases_Bool (escapes_bar c cs)) [
      | inl h ↦
          let n : bar_escape_at (c ∷ cs) ≡ 0 = cond-true (escapes_bar c cs) 0 _ h in
          absurd (none cs (ap (λ k. drop k (c ∷ cs)) n ∙ ap (λ b. b ∷ cs) (is_backslash c cs h)))
      | inr h ↦ let n : bar_escape_at (c ∷ cs) ≡ suc (bar_escape_at cs) = cond-false (escapes_bar c cs) 0 _ h in omega (arith, n)
    ]

-- a piece is printed
module _ (out printed cs : List ℕ) (e : printed ≡ out ++ encode (take (bar_escape_at cs) cs)) where
  pub piece_printed : printed ++ encode (cell_code (drop (bar_escape_at cs) cs)) ≡ out ++ encode (cell_code cs)
  piece_printed =
      let front = take (bar_escape_at cs) cs in
      let after = cell_code (drop (bar_escape_at cs) cs) in
      ap (λ x. x ++ encode after) e ∙ append_assoc out (encode front) (encode after)
      ∙ ap (λ x. out ++ x) (sym (flat_map-append encoded_byte front after) ∙ sym (ap encode (code_before cs)))

  pub escape_printed : (rest : List ℕ) → drop (bar_escape_at cs) cs ≡ 92 ∷ rest → printed ++ encode (cell_code rest) ≡ out ++ encode (cell_code cs)
  escape_printed rest is = ap (λ l. printed ++ encode l) (sym (code_after cs rest is)) ∙ piece_printed

-- and less is left
pub less_after : (cs rest : List ℕ) → drop (bar_escape_at cs) cs ≡ 92 ∷ rest → length rest < length cs
less_after cs rest e = let l = ap length e in let d = length-drop (bar_escape_at cs) cs in omega (arith, l, d)

pub less_before : (cs : List ℕ) → 0 < length cs → ((rest : List ℕ) → drop (bar_escape_at cs) cs ≢ 92 ∷ rest) → length (drop (bar_escape_at cs) cs) < length cs
less_before cs some none = let d = length-drop (bar_escape_at cs) cs in let n = some_before cs some none in omega (arith, d, n, some)
