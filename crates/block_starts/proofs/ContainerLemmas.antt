-- The first byte after the spaces and tabs of a rest.
use Rattle.std.proofs.Common.{inl, inr, ◌≡◌, ℕ, ◌<◌, ◌≤◌, ◌+◌, ◌||◌, eqb, List, [], ◌∷◌, ap, sym, ◌∙◌, drop, get_or, length}
use Rattle.std.specs.List.{prefix_len}
use Rattle.std.proofs.lemmas.Bool.{cases_Bool, cond-false, cond-true, eqb-true, or_parts}
use Rattle.std.proofs.lemmas.List.{drop_more}
use Rattle.std.proofs.Math.ListN.{drop_of_length-le}
use Rattle.std.proofs.lemmas.List.Sums.{prefix_len_stops}
use Rattle.definition_text.specs.Columns.{is_white, codes_from}
use Rattle.block_starts.specs.Marks.{begins_with_caret}

-- the first byte after spaces and tabs is a code
pub first_dark : (column : ℕ) (text : List ℕ) → prefix_len is_white text < length text
    → codes_from column (drop (prefix_len is_white text) text)
    ≡ get_or text (prefix_len is_white text) 0 ∷ codes_from (column + 1) (drop (prefix_len is_white text + 1) text)
first_dark column text lt =
    let n = prefix_len is_white text in
    let byte = get_or text n 0 in
    ap (codes_from column) (drop_more text n 0 lt)
    ∙ cond-false (eqb byte 9) _ _ (or_parts (eqb byte 32) (eqb byte 9)
    (or_parts (eqb byte 32 || eqb byte 9) (eqb byte 256) (prefix_len_stops is_white text 0 lt)).0).1

-- a `^` by its code
pub caret_code : (column : ℕ) (b : ℕ) (bs : List ℕ) → begins_with_caret (codes_from column (b ∷ bs)) ≡ eqb b 94
caret_code column b bs =
    elim (cases_Bool (eqb b 9)) [
      | inl tab ↦ ap begins_with_caret (cond-true (eqb b 9) _ _ tab) ∙ ap (λ x. eqb x 94) (sym (eqb-true b 9 tab))
      | inr other ↦ ap begins_with_caret (cond-false (eqb b 9) _ _ other)
    ]

pub nothing_dark : (column : ℕ) (text : List ℕ) (n : ℕ) → length text ≤ n → codes_from column (drop n text) ≡ []
nothing_dark column text n le = ap (codes_from column) (drop_of_length-le text le)
