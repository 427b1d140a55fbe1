-- The codes of whole lines.
use Rattle.std.proofs.Common.{◌≡◌, ℕ, ◌+◌, ◌<◌, suc, zero, List, [], ◌∷◌, ◌++◌, false, ◌&&◌, not, eqb, inl, inr, refl, sym, ap, ◌∙◌, get_or, take, arith}
use Rattle.std.specs.Prelude.{replicate}
use Rattle.std.specs.List.{list_all, prefix_len}
use Rattle.std.proofs.lemmas.Bool.{cases_Bool, cond-true, cond-false, ne_eqb, eqb-true}
use Rattle.definition_text.specs.Columns.{codes_from, whole, is_white, is_blank, is_byte, is_tab_column, bytes_of, block_codes, tab_column, columns_after_tab}

-- ---- columns of a tab are white, and no bytes

pub all_white : (n : ℕ) (rest : List ℕ) → list_all is_white (replicate n tab_column ++ rest) ≡ list_all is_white rest
all_white zero rest = refl
all_white (suc n) rest = all_white n rest

pub no_bytes : (n : ℕ) (rest : List ℕ) → bytes_of (replicate n tab_column ++ rest) ≡ bytes_of rest
no_bytes zero rest = refl
no_bytes (suc n) rest = no_bytes n rest

-- ---- a line

pub blank_codes_from : (column : ℕ) (bs : List ℕ) → list_all is_white (codes_from column bs) ≡ list_all is_white bs
blank_codes_from column [] = refl
blank_codes_from column (b ∷ bs) =
    elim (cases_Bool (eqb b 9)) [
      | inl h ↦
          let after = column + 1 + columns_after_tab column in
          ap (list_all is_white) (cond-true (eqb b 9) _ _ h)
          ∙ all_white (columns_after_tab column) (codes_from after bs)
          ∙ blank_codes_from after bs
          ∙ sym (ap (λ x. list_all is_white (x ∷ bs)) (eqb-true b 9 h))
      | inr h ↦ ap (list_all is_white) (cond-false (eqb b 9) _ _ h) ∙ ap (λ x. is_white b && x) (blank_codes_from (column + 1) bs)
    ]

pub blank_codes : (bs : List ℕ) → is_blank (whole bs) ≡ list_all is_white bs
blank_codes bs = blank_codes_from 0 bs

byte_is_byte : (b : ℕ) → b < 256 → is_tab_column b ≡ false
byte_is_byte b lt = ne_eqb b 256 (λ e. omega arith)

tail_bytes : (b : ℕ) (bs : List ℕ) → ((k : ℕ) → get_or (b ∷ bs) k 0 < 256) → (k : ℕ) → get_or bs k 0 < 256
tail_bytes b bs h k = h (suc k)

pub bytes_of_codes : (column : ℕ) (bs : List ℕ) → ((k : ℕ) → get_or bs k 0 < 256) → bytes_of (codes_from column bs) ≡ bs
bytes_of_codes column [] h = refl
bytes_of_codes column (b ∷ bs) h =
    elim (cases_Bool (eqb b 9)) [
      | inl e ↦
          let after = column + 1 + columns_after_tab column in
          ap bytes_of (cond-true (eqb b 9) _ _ e)
          ∙ ap (λ x. 9 ∷ x) (no_bytes (columns_after_tab column) (codes_from after bs) ∙ bytes_of_codes after bs (tail_bytes b bs h))
          ∙ sym (ap (λ x. x ∷ bs) (eqb-true b 9 e))
      | inr e ↦
          ap bytes_of (cond-false (eqb b 9) _ _ e)
          ∙ cond-true (is_byte b) _ _ (ap not (byte_is_byte b (h 0)))
          ∙ ap (λ x. b ∷ x) (bytes_of_codes (column + 1) bs (tail_bytes b bs h))
    ]

-- a whole line begins with no column of a tab
pub no_columns : (column : ℕ) (bs : List ℕ) → ((k : ℕ) → get_or bs k 0 < 256) → prefix_len is_tab_column (codes_from column bs) ≡ 0
no_columns column [] h = refl
no_columns column (b ∷ bs) h =
    elim (cases_Bool (eqb b 9)) [
      | inl e ↦ ap (prefix_len is_tab_column) (cond-true (eqb b 9) _ _ e)
      | inr e ↦ ap (prefix_len is_tab_column) (cond-false (eqb b 9) _ _ e) ∙ cond-false (is_tab_column b) _ _ (byte_is_byte b (h 0))
    ]

pub block_codes_whole : (bs : List ℕ) → ((k : ℕ) → get_or bs k 0 < 256) → block_codes (whole bs) ≡ bs
block_codes_whole bs h = ap (λ n. take n (whole bs) ++ bytes_of (whole bs)) (no_columns 0 bs h) ∙ bytes_of_codes 0 bs h
