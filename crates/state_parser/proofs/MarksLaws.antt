-- Which indices are marked.
use Rattle.std.proofs.Common.{◌≡◌, ◌∙◌, ◌⊎◌, inl, inr, ⊎_elim, ℕ, ◌+◌, ◌-◌, ◌<◌, zero, suc, Bool, true, false, ltb, if◌then◌else◌, List, []}
use Rattle.std.proofs.Common.{◌∷◌, ◌++◌}
use Rattle.std.proofs.Common.{length, replicate, get_or, refl, sym, ap, arith}
use Rattle.std.specs.Prelude.{Contains, slice_set}
use Rattle.std.specs.List.{fold}
use Rattle.std.proofs.lemmas.Bool.{cases_eq, ltb-true, ltb-false}
use Rattle.std.proofs.lemmas.List.{get_or-set_same, get_or-set_other}
use Rattle.std.proofs.lemmas.List.Elements.{Contains-append_right}
use Rattle.std.proofs.lemmas.Option.{unwrap_or-slice_get}
use Rattle.state_parser.specs.Starts.{AreMarked, marked}

-- ---- one mark

grown_at : (s : List Bool) (k j : ℕ) → length s + k ≡ j → get_or ((s ++ replicate k false) ++ true ∷ []) j false ≡ true
grown_at [] zero zero h = refl
grown_at [] zero (suc j) h = absurd (omega arith)
grown_at [] (suc k) zero h = absurd (omega arith)
grown_at [] (suc k) (suc j) h = grown_at [] k j (omega arith)
grown_at (x ∷ s) k zero h = absurd (omega arith)
grown_at (x ∷ s) k (suc j) h = grown_at s k j (omega arith)

grown_else : (s : List Bool) (k j : ℕ) → (length s + k ≡ j → ⊥) → get_or ((s ++ replicate k false) ++ true ∷ []) j false ≡ get_or s j false
grown_else [] zero zero h = absurd (h refl)
grown_else [] zero (suc j) h = refl
grown_else [] (suc k) zero h = refl
grown_else [] (suc k) (suc j) h = grown_else [] k j (λ e. h (omega arith))
grown_else (x ∷ s) k zero h = refl
grown_else (x ∷ s) k (suc j) h = grown_else s k j (λ e. h (omega arith))

abbrev marked_by : Bool → List Bool → ℕ → List Bool
marked_by b s i = if b then slice_set s i true else (s ++ replicate (i - length s) false) ++ true ∷ []

at_by : (b : Bool) (s : List Bool) (i : ℕ) → ltb i (length s) ≡ b → get_or (marked_by b s i) i false ≡ true
at_by true s i h = get_or-set_same s i true false (ltb-true i (length s) h)
at_by false s i h = let past = ltb-false i (length s) h in grown_at s (i - length s) i (omega arith)

else_by : (b : Bool) (s : List Bool) (i j : ℕ) → ltb i (length s) ≡ b → (i ≡ j → ⊥) → get_or (marked_by b s i) j false ≡ get_or s j false
else_by true s i j h k = get_or-set_other s i j true false (λ e. k (sym e))
else_by false s i j h k = let past = ltb-false i (length s) h in grown_else s (i - length s) j (λ e. k (omega arith))

marked_at : (s : List Bool) (i : ℕ) → get_or (marked s i) i false ≡ true
marked_at s i = at_by (ltb i (length s)) s i refl

marked_else : (s : List Bool) (i j : ℕ) → (i ≡ j → ⊥) → get_or (marked s i) j false ≡ get_or s j false
marked_else s i j h = else_by (ltb i (length s)) s i j refl h

-- ---- many marks

first_at : (x y : ℕ) (xs : List ℕ) (k : ℕ) → k < length (x ∷ xs) → get_or (x ∷ xs) k y ≡ y → (x ≡ y) ⊎ Contains xs y
first_at x y xs zero h e = inl e
first_at x y xs (suc k) h e = inr (k, omega arith, e)

module _ (j : ℕ) where
  abbrev IsMarked : List Bool → Type 0
  IsMarked s = get_or s j false ≡ true

  one_marks : (s : List Bool) (i : ℕ) → (i ≡ j) ⊎ IsMarked s → (i ≡ j) ⊎ (i ≡ j → ⊥) → IsMarked (marked s i)
  one_marks s i h (inl e) = ap (λ (z : ℕ). get_or (marked s i) z false) (sym e) ∙ marked_at s i
  one_marks s i (inl e) (inr k) = absurd (k e)
  one_marks s i (inr h) (inr k) = marked_else s i j k ∙ h

  one_marked : (s : List Bool) (i : ℕ) → IsMarked (marked s i) → (i ≡ j) ⊎ (i ≡ j → ⊥) → (i ≡ j) ⊎ IsMarked s
  one_marked s i h (inl e) = inl e
  one_marked s i h (inr k) = inr (sym (marked_else s i j k) ∙ h)

  all_marked : (s : List Bool) (is : List ℕ) → IsMarked (fold marked s is) → IsMarked s ⊎ Contains is j
  all_marked s [] h = inl h
  all_marked s (i ∷ is) h = ⊎_elim (λ k. ⊎_elim (λ e. inr (0, omega arith, e)) (λ m. inl m) (one_marked s i k (cases_eq i j)))
      (λ c. inr (Contains-append_right (i ∷ []) is j c)) (all_marked (marked s i) is h)

  all_mark : (s : List Bool) (is : List ℕ) → IsMarked s ⊎ Contains is j → IsMarked (fold marked s is)
  all_mark s [] (inl h) = h
  all_mark s [] (inr c) = absurd (omega (arith, c.1))
  all_mark s (i ∷ is) (inl h) = all_mark (marked s i) is (inl (one_marks s i (inr h) (cases_eq i j)))
  all_mark s (i ∷ is) (inr c) = ⊎_elim (λ e. all_mark (marked s i) is (inl (one_marks s i (inl e) (cases_eq i j))))
      (λ k. all_mark (marked s i) is (inr k)) (first_at i j is c.0 c.1 c.2)

pub fold_marks : (is : List ℕ) (marks : List Bool) → marks ≡ fold marked [] is → AreMarked is marks
fold_marks is marks h j =
    let same = ap (λ (z : List Bool). get_or z j false) h in
    let read = unwrap_or-slice_get marks j false in (
      λ m. ⊎_elim (λ k. absurd (let e : false ≡ true = k in cc)) (λ c. c) (all_marked j [] is (sym same ∙ (sym read ∙ m))),
      λ c. read ∙ (same ∙ all_mark j [] is (inr c)),
    )
