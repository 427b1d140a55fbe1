-- Checks of task list items, with another ending in place of each LF.
use Rattle.std.proofs.Common.{◌≡◌, ℕ, Bool, true, false, cond, ◌&&◌, ◌||◌, eqb, not, List, [], ◌∷◌, None, Some, refl, ap, ◌∙◌}
use Rattle.laws_endings.proofs.Prelude.{check_at, code_with, codes_with, Constructs, is_space, LineEnding, list_all}
use Rattle.definition_inline.specs.GfmTaskListItem.{is_done, is_apart, check_of}
use Rattle.laws_endings.proofs.Codes.{same_code}

module _ (e : LineEnding) where
  all_space-with : (cs : List ℕ) → list_all is_space (codes_with e cs) ≡ list_all is_space cs
  all_space-with [] = refl
  all_space-with (c ∷ cs) =
      ap (λ t. t && list_all is_space (codes_with e cs)) (same_code e is_space c refl refl) ∙ ap (λ t. is_space c && t) (all_space-with cs)

  is_apart-with : (cs : List ℕ) → is_apart (codes_with e cs) ≡ is_apart cs
  is_apart-with [] = refl
  is_apart-with (c ∷ cs) =
      ap (λ t. t && not (list_all is_space (codes_with e cs))) (same_code e is_space c refl refl) ∙ ap (λ t. is_space c && not t) (all_space-with cs)

  is_done-with : (mark : ℕ) → is_done (code_with e mark) ≡ is_done mark
  is_done-with mark =
      let m = code_with e mark in
      ap (λ t. cond t (Some false) (cond (eqb m 120 || eqb m 88) (Some true) None)) (same_code e is_space mark refl refl)
      ∙ ap (λ t. cond (is_space mark) (Some false) (cond (t || eqb m 88) (Some true) None)) (same_code e (λ c. eqb c 120) mark refl refl)
      ∙ ap (λ t. cond (is_space mark) (Some false) (cond (eqb mark 120 || t) (Some true) None)) (same_code e (λ c. eqb c 88) mark refl refl)

  check_of-with : (cs : List ℕ) → check_of (codes_with e cs) ≡ check_of cs
  check_of-with [] = refl
  check_of-with (a ∷ []) = refl
  check_of-with (a ∷ b ∷ []) = refl
  check_of-with (a ∷ b ∷ c ∷ others) =
      let done = is_done (code_with e b) in
      let closing = code_with e c in
      let more = codes_with e others in
      ap (λ t. cond (t && (eqb closing 93 && is_apart more)) done None) (same_code e (λ x. eqb x 91) a refl refl)
      ∙ ap (λ t. cond (eqb a 91 && (t && is_apart more)) done None) (same_code e (λ x. eqb x 93) c refl refl)
      ∙ ap (λ t. cond (eqb a 91 && (eqb c 93 && t)) done None) (is_apart-with others)
      ∙ ap (λ found. cond (eqb a 91 && (eqb c 93 && is_apart others)) found None) (is_done-with b)

  -- the same check, with any ending
  pub check_at-with : (on : Constructs) (first : Bool) (cs : List ℕ) → check_at on first (codes_with e cs) ≡ check_at on first cs
  check_at-with on first cs = ap (λ found. cond (first && on.gfm_task_list_item) found None) (check_of-with cs)
