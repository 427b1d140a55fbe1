-- Ends of a text that are no breaks.
use Rattle.std.proofs.Common.{◌≡◌, ℕ, zero, suc, ◌+◌, ◌-◌, ◌<◌, ◌≤◌, List, [], ◌∷◌, Bool, true, false, ◌||◌, inl, inr, eqb, sym, ap, ◌∙◌, length, drop, get_or}
use Rattle.std.proofs.Common.{arith}
use Rattle.std.specs.Prelude.{leb}
use Rattle.std.specs.List.{list_all, count_by}
use Rattle.std.proofs.lemmas.Bool.{and_parts, or_cases, eqb-true}
use Rattle.std.proofs.lemmas.List.{drop-drop, length-drop, drop_more}
use Rattle.definition_text.specs.Columns.{is_white}
use Rattle.definition_block.specs.ThematicBreak.{is_break_text, is_break_marker, is_break_by}
use Rattle.block_starts.specs.ThematicBreak.{BreaksWithin}

-- what a break of this marker holds
abbrev pub has_only : ℕ → List ℕ → Bool
has_only marker text = list_all (λ b. (eqb b marker) || is_white b) text

-- the end of an end
pub breaks_after : (most : ℕ) (bs : List ℕ) (n : ℕ) → BreaksWithin most bs → BreaksWithin most (drop n bs)
breaks_after most bs n h k lt =
    let e = length-drop n bs in
    ap is_break_text (drop-drop k n bs) ∙ h (n + k) (omega arith)

holds_after : (marker : ℕ) (bs : List ℕ) (n : ℕ) → has_only marker bs ≡ true → has_only marker (drop n bs) ≡ true
holds_after marker bs zero h = h
holds_after marker [] (suc n) h = h
holds_after marker (b ∷ bs) (suc n) h = holds_after marker bs n (and_parts (eqb b marker || is_white b) (has_only marker bs) h).1

-- where an end of a text is a break, each byte in it that isn't white is its marker
pub break_holds : (bs : List ℕ) (k p : ℕ) → k ≤ p → p < length bs → is_white (get_or bs p 0) ≡ false → is_break_text (drop k bs) ≡ true
    → (is_break_marker (get_or bs p 0) ≡ true) × (has_only (get_or bs p 0) (drop (p + 1) bs) ≡ true)
break_holds bs k p le lt dark h =
    let marker = get_or bs k 0 in
    let byte = get_or bs p 0 in
    let within : k < length bs = omega arith in
    let front = drop_more bs k 0 within in
    let parts = and_parts (is_break_marker marker) (is_break_by marker (marker ∷ drop (k + 1) bs)) (ap is_break_text (sym front) ∙ h) in
    let all = and_parts (has_only marker (marker ∷ drop (k + 1) bs)) (leb 3 (count_by (λ b. eqb b marker) (marker ∷ drop (k + 1) bs))) parts.1 in
    let from : k + (p - k) ≡ p = omega arith in
    let here = sym (drop-drop (p - k) k bs ∙ ap (λ n. drop n bs) from ∙ drop_more bs p 0 lt) in
    let rest = and_parts (eqb byte marker || is_white byte) (has_only marker (drop (p + 1) bs))
    (ap (has_only marker) here ∙ holds_after marker (drop k bs) (p - k) (ap (has_only marker) front ∙ all.0)) in
    elim (or_cases (eqb byte marker) (is_white byte) rest.0) [
      | inl same ↦
          let e = eqb-true byte marker same in
          (ap is_break_marker e ∙ parts.0, ap (λ m. has_only m (drop (p + 1) bs)) e ∙ rest.1)
      | inr white ↦ let both : false ≡ true = sym dark ∙ white in cc
    ]
