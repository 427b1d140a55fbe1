-- Codes that are white space.
use Rattle.std.proofs.Common.{◌≡◌, ℕ, zero, suc, Bool, true, ◌&&◌, List, [], ◌∷◌, inl, inr, refl, ap, ap₂, ◌∙◌, arith, take}
use Rattle.std.specs.Prelude.{leb, ◌||◌}
use Rattle.std.proofs.Common.{sym}
use Rattle.std.proofs.lemmas.Bool.{leb-true}
use Rattle.parse_lines.proofs.Prelude.{and_parts, cases_Bool, cond-false, cond-true, gap, indent, is_blank, is_white, list_all, Rest}
pub use Rattle.parse_laid.proofs.Codes.{all_filter, all_prefix}

pub all_take : (p : ℕ → Bool) (k : ℕ) (xs : List ℕ) → list_all p xs ≡ true → list_all p (take k xs) ≡ true
all_take p zero xs h = refl
all_take p (suc k) [] h = refl
all_take p (suc k) (x ∷ xs) h = let parts = and_parts (p x) (list_all p xs) h in ap₂ (λ (a b : Bool). a && b) parts.0 (all_take p k xs parts.1)

-- the white space after the marker of an item
pub gap_white : (after : Rest) → list_all is_white (take (gap after) after) ≡ true
gap_white after =
    elim (cases_Bool (is_blank after || leb 5 (indent after))) [
      | inl one ↦
          ap (λ (k : ℕ). list_all is_white (take k after)) (cond-true (is_blank after || leb 5 (indent after)) _ _ one)
          ∙ (elim (cases_Bool (is_blank after)) [
            | inl blank ↦ all_take is_white 1 after blank
            | inr some ↦
                let far : leb 5 (indent after) ≡ true = sym (ap (λ (b : Bool). b || leb 5 (indent after)) some) ∙ one in
                all_prefix is_white 1 after (omega (arith, leb-true 5 (indent after) far))
          ])
      | inr all ↦
          ap (λ (k : ℕ). list_all is_white (take k after)) (cond-false (is_blank after || leb 5 (indent after)) _ _ all)
          ∙ all_prefix is_white (indent after) after (omega arith)
    ]
