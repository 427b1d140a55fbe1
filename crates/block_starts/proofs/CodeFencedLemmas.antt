-- Lines that close no fence.
use Rattle.std.proofs.Common.{◌≡◌, ℕ, suc, ◌+◌, ◌-◌, ◌<◌, ◌||◌, true, false, eqb, inl, inr, List, [], ◌∷◌, refl, sym, ap, ◌∙◌, subst, length, drop}
use Rattle.std.proofs.Common.{arith, get_or}
use Rattle.std.specs.Prelude.{leb}
use Rattle.std.specs.List.{list_all, prefix_len}
use Rattle.std.proofs.lemmas.Bool.{and_from, and_parts, cases_Bool, cond-true, cond-false, eqb-false, false_from_ne_true, or_left, or_parts, or_right}
use Rattle.std.proofs.lemmas.List.{get_or-drop}
use Rattle.std.proofs.lemmas.List.Folds.{list_all_at}
use Rattle.markdown_options.specs.declared.configuration.Constructs.{Constructs}
use Rattle.definition_text.specs.Columns.{bare, bytes_of, indent, is_white, whole}
use Rattle.definition_text.specs.Indents.{small_indent}
use Rattle.definition_text.specs.Runs.{after_run, is_run, run}
use Rattle.definition_block.specs.CodeFenced.{Fence, is_fence_end}
use Rattle.text_lines.proofs.Codes.{bytes_of_codes}
use Rattle.block_starts.specs.CodeFenced.{may_close}
use Rattle.block_starts.proofs.ThematicBreakLemmas.{has_only}
use Rattle.block_starts.proofs.Views.{bare_view}

white_only : (byte : ℕ) (bs : List ℕ) → list_all is_white bs ≡ true → has_only byte bs ≡ true
white_only byte [] h = refl
white_only byte (b ∷ bs) h =
    let parts = and_parts (is_white b) (list_all is_white bs) h in
    and_from (eqb b byte || is_white b) (has_only byte bs) (or_right (eqb b byte) (is_white b) parts.0) (white_only byte bs parts.1)

run_only : (byte : ℕ) (bs : List ℕ) → list_all is_white (after_run byte bs) ≡ true → has_only byte bs ≡ true
run_only byte [] h = refl
run_only byte (b ∷ bs) h = elim (cases_Bool (eqb b byte)) [
  | inl same ↦
      let next : 1 + run byte bs ≡ suc (run byte bs) = omega arith in
      let size : run byte (b ∷ bs) ≡ suc (run byte bs) = cond-true (eqb b byte) _ _ same ∙ next in
      and_from (eqb b byte || is_white b) (has_only byte bs) (or_left (eqb b byte) (is_white b) same)
      (run_only byte bs (sym (ap (λ n. list_all is_white (drop n (b ∷ bs))) size) ∙ h))
  | inr other ↦
      let size : run byte (b ∷ bs) ≡ 0 = cond-false (eqb b byte) _ _ other in
      white_only byte (b ∷ bs) (sym (ap (λ n. list_all is_white (drop n (b ∷ bs))) size) ∙ h)
]

indented_only : (byte : ℕ) (bs : List ℕ) → has_only byte (drop (prefix_len is_white bs) bs) ≡ true → has_only byte bs ≡ true
indented_only byte [] h = h
indented_only byte (b ∷ bs) h = elim (cases_Bool (is_white b)) [
  | inl white ↦
      let next : 1 + prefix_len is_white bs ≡ suc (prefix_len is_white bs) = omega arith in
      let size : prefix_len is_white (b ∷ bs) ≡ suc (prefix_len is_white bs) = cond-true (is_white b) _ _ white ∙ next in
      and_from (eqb b byte || is_white b) (has_only byte bs) (or_right (eqb b byte) (is_white b) white)
      (indented_only byte bs (sym (ap (λ n. has_only byte (drop n (b ∷ bs))) size) ∙ h))
  | inr dark ↦
      let size : prefix_len is_white (b ∷ bs) ≡ 0 = cond-false (is_white b) _ _ dark in
      sym (ap (λ n. has_only byte (drop n (b ∷ bs))) size) ∙ h
]

bare_bytes : (bs : List ℕ) → ((k : ℕ) → get_or bs k 0 < 256) → bytes_of (bare (whole bs)) ≡ drop (prefix_len is_white bs) bs
bare_bytes bs small =
    let n = prefix_len is_white bs in
    ap bytes_of (bare_view 0 0 bs)
    ∙ bytes_of_codes (0 + indent (whole bs)) (drop n bs) (λ k. subst (λ (b : ℕ). b < 256) (sym (get_or-drop n bs k 0)) (small (n + k)))

pub closes_none : (on : Constructs) (f : Fence) (bs : List ℕ) → ((k : ℕ) → get_or bs k 0 < 256) → may_close f.byte bs ≡ false
    → is_fence_end on f (whole bs) ≡ false
closes_none on f bs small h =
    let parts = or_parts (eqb (length bs) 0) _ h in
    let some : 0 < length bs = omega (arith, eqb-false (length bs) 0 parts.0) in
    let none : has_only f.byte bs ≡ false = list_all_at (λ b. eqb b f.byte || is_white b) bs (length bs - 1) 0 (omega (arith, some)) parts.1 in
    false_from_ne_true (is_fence_end on f (whole bs)) (λ ends.
    let run_is = and_parts (small_indent on (whole bs)) (is_run f.run f.byte (bytes_of (bare (whole bs)))) ends in
    let only = ap (is_run f.run f.byte) (sym (bare_bytes bs small)) ∙ run_is.1 in
    let white = and_parts (leb f.run (run f.byte (drop (prefix_len is_white bs) bs))) _ only in
    let wrong : false ≡ true = sym none ∙ indented_only f.byte bs (run_only f.byte (drop (prefix_len is_white bs) bs) white.1) in
    cc)
