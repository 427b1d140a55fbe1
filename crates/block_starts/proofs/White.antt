-- Columns of spaces and tabs at the front of a rest.
use Rattle.std.proofs.Common.{◌≡◌, ℕ, ◌+◌, ◌-◌, ◌*◌, ◌<◌, ◌≤◌, suc, zero, List, [], ◌∷◌, ◌++◌, true, false, eqb, inl, inr, refl, sym, ap, ◌∙◌, length, drop}
use Rattle.std.proofs.Common.{get_or, replicate, arith}
use Rattle.std.specs.Prelude.{if◌then◌else◌, ◌==◌}
use Rattle.std.specs.List.{list_all, prefix_len}
use Rattle.std.proofs.lemmas.Bool.{cases_Bool, cond-true, cond-false, and_parts, and_from, eqb-true, eqb-false, cond_both}
use Rattle.std.proofs.lemmas.List.{drop-drop, drop_at, drop-append-le, length-replicate, drop_more}
use Rattle.std.proofs.lemmas.List.Folds.{list_all_at}
use Rattle.std.proofs.lemmas.List.Sums.{list_all-from_AllPass, prefix_len-le-length, prefix_len_passes, prefix_len_stops}
use Rattle.definition_text.specs.Columns.{codes_from, is_white, indent, tab_column, columns_after_tab}
use Rattle.block_starts.specs.Widths.{width}

-- ---- a front of columns that are white

pub indent_front : (ws xs : List ℕ) → list_all is_white ws ≡ true → indent (ws ++ xs) ≡ length ws + indent xs
indent_front [] xs h = omega arith
indent_front (w ∷ ws) xs h =
    let parts = and_parts (is_white w) (list_all is_white ws) h in
    let e : indent (ws ++ xs) ≡ length ws + indent xs = indent_front ws xs parts.1 in
    cond-true (is_white w) (1 + indent (ws ++ xs)) 0 parts.0 ∙ omega arith

pub drop_front : (ws xs : List ℕ) (n : ℕ) → drop (length ws + n) (ws ++ xs) ≡ drop n xs
drop_front ws xs n = sym (drop-drop n (length ws) (ws ++ xs)) ∙ ap (λ r. drop n r) (drop_at ws xs (length ws) refl)

pub white_columns : (n : ℕ) → list_all is_white (replicate n tab_column) ≡ true
white_columns zero = refl
white_columns (suc n) = white_columns n

-- ---- the columns of a byte

abbrev codes_of : ℕ → ℕ → List ℕ
codes_of column b = if b == 9 then 9 ∷ replicate (columns_after_tab column) tab_column else b ∷ []

codes_first : (column b : ℕ) (bs : List ℕ) → codes_from column (b ∷ bs) ≡ codes_of column b ++ codes_from (column + width column b) bs
codes_first column b bs =
    elim (cases_Bool (eqb b 9)) [
      | inl h ↦
          let after : column + 1 + columns_after_tab column ≡ column + width column b = let e = cond-true (eqb b 9) (1 + columns_after_tab column) 1 h in
          omega arith in
          cond-true (eqb b 9) _ _ h
          ∙ ap (λ n. 9 ∷ (replicate (columns_after_tab column) tab_column ++ codes_from n bs)) after
          ∙ sym (ap (λ c. c ++ codes_from (column + width column b) bs) (cond-true (eqb b 9) (9 ∷ replicate (columns_after_tab column) tab_column) (b ∷ []) h))
      | inr h ↦
          let after : column + 1 ≡ column + width column b = let e = cond-false (eqb b 9) (1 + columns_after_tab column) 1 h in omega arith in
          cond-false (eqb b 9) _ _ h
          ∙ ap (λ n. b ∷ codes_from n bs) after
          ∙ sym (ap (λ c. c ++ codes_from (column + width column b) bs) (cond-false (eqb b 9) (9 ∷ replicate (columns_after_tab column) tab_column) (b ∷ []) h))
    ]

length-codes_of : (column b : ℕ) → length (codes_of column b) ≡ width column b
length-codes_of column b =
    elim (cases_Bool (eqb b 9)) [
      | inl h ↦
          ap length (cond-true (eqb b 9) (9 ∷ replicate (columns_after_tab column) tab_column) (b ∷ []) h)
          ∙ (let e = length-replicate (columns_after_tab column) tab_column in let f = cond-true (eqb b 9) (1 + columns_after_tab column) 1 h in omega arith)
      | inr h ↦
          ap length (cond-false (eqb b 9) (9 ∷ replicate (columns_after_tab column) tab_column) (b ∷ []) h)
          ∙ sym (cond-false (eqb b 9) (1 + columns_after_tab column) 1 h)
    ]

white_codes : (column b : ℕ) → is_white b ≡ true → list_all is_white (codes_of column b) ≡ true
white_codes column b white =
    elim (cases_Bool (eqb b 9)) [
      | inl h ↦
          ap (list_all is_white) (cond-true (eqb b 9) (9 ∷ replicate (columns_after_tab column) tab_column) (b ∷ []) h)
          ∙ white_columns (columns_after_tab column)
      | inr h ↦
          ap (list_all is_white) (cond-false (eqb b 9) (9 ∷ replicate (columns_after_tab column) tab_column) (b ∷ []) h)
          ∙ and_from (is_white b) true white refl
    ]

-- the columns of a byte after its first are those of a tab
after_first_column : (column b : ℕ) → drop 1 (codes_of column b) ≡ replicate (width column b - 1) tab_column
after_first_column column b =
    elim (cases_Bool (eqb b 9)) [
      | inl h ↦
          let w = cond-true (eqb b 9) (1 + columns_after_tab column) 1 h in
          let e : columns_after_tab column ≡ width column b - 1 = omega arith in
          ap (drop 1) (cond-true (eqb b 9) (9 ∷ replicate (columns_after_tab column) tab_column) (b ∷ []) h)
          ∙ ap (λ n. replicate n tab_column) e
      | inr h ↦
          let w = cond-false (eqb b 9) (1 + columns_after_tab column) 1 h in
          let e : 0 ≡ width column b - 1 = omega arith in
          ap (drop 1) (cond-false (eqb b 9) (9 ∷ replicate (columns_after_tab column) tab_column) (b ∷ []) h)
          ∙ ap (λ n. replicate n tab_column) e
    ]

width_bounds : (column b : ℕ) → (1 ≤ width column b) × (width column b ≤ 4)
width_bounds column b = (
  cond_both (eqb b 9) (1 + columns_after_tab column) 1 (λ k. 1 ≤ k) (λ _. omega arith) (λ _. omega arith),
  cond_both (eqb b 9) (1 + columns_after_tab column) 1 (λ k. k ≤ 4) (λ _. omega arith) (λ _. omega arith),
)

-- ---- one byte more

indent_byte : (column b : ℕ) (bs : List ℕ) → is_white b ≡ true → indent (codes_from column (b ∷ bs))
    ≡ width column b + indent (codes_from (column + width column b) bs)
indent_byte column b bs white =
    ap indent (codes_first column b bs)
    ∙ indent_front (codes_of column b) (codes_from (column + width column b) bs) (white_codes column b white)
    ∙ ap (λ n. n + indent (codes_from (column + width column b) bs)) (length-codes_of column b)

white_byte : (b : ℕ) (bs : List ℕ) → is_white b ≡ true → prefix_len is_white (b ∷ bs) ≡ 1 + prefix_len is_white bs
white_byte b bs white = cond-true (is_white b) (1 + prefix_len is_white bs) 0 white

dark_byte : (b : ℕ) (bs : List ℕ) → is_white b ≡ false → prefix_len is_white (b ∷ bs) ≡ 0
dark_byte b bs dark = cond-false (is_white b) (1 + prefix_len is_white bs) 0 dark

-- a byte that isn't white stands first among its codes
indent_stop : (column b : ℕ) (bs : List ℕ) → is_white b ≡ false → indent (codes_from column (b ∷ bs)) ≡ 0
indent_stop column b bs dark =
    elim (cases_Bool (eqb b 9)) [
      | inl h ↦ let wrong : is_white b ≡ true = ap is_white (eqb-true b 9 h) in let both : false ≡ true = sym dark ∙ wrong in cc
      | inr h ↦ ap indent (cond-false (eqb b 9) _ _ h) ∙ cond-false (is_white b) _ _ dark
    ]

-- no more columns than four a space or tab
pub indent_bound : (column : ℕ) (bs : List ℕ) → indent (codes_from column bs) ≤ 4 * prefix_len is_white bs
indent_bound column [] = omega arith
indent_bound column (b ∷ bs) =
    elim (cases_Bool (is_white b)) [
      | inl white ↦
          let more = indent_bound (column + width column b) bs in
          let e = indent_byte column b bs white in
          let n = white_byte b bs white in
          let w = (width_bounds column b).1 in
          omega arith
      | inr dark ↦ let e = indent_stop column b bs dark in omega arith
    ]

-- the same at a place in a text
pub indent_at : (column : ℕ) (bs : List ℕ) (i wide : ℕ) → i < length bs → is_white (get_or bs i 0) ≡ true → wide ≡ width column (get_or bs i 0)
    → indent (codes_from column (drop i bs)) ≡ wide + indent (codes_from (column + wide) (drop (i + 1) bs))
indent_at column bs i wide lt white e =
    ap (λ r. indent (codes_from column r)) (drop_more bs i 0 lt)
    ∙ indent_byte column (get_or bs i 0) (drop (i + 1) bs) white
    ∙ ap (λ w. w + indent (codes_from (column + w) (drop (i + 1) bs))) (sym e)

-- ---- all that is white

-- whether a text is white
pub white_all : (bs : List ℕ) → eqb (prefix_len is_white bs) (length bs) ≡ list_all is_white bs
white_all bs =
    elim (cases_Bool (eqb (prefix_len is_white bs) (length bs))) [
      | inl h ↦
          let e = eqb-true _ _ h in
          h ∙ sym (list_all-from_AllPass is_white bs (λ k d lt. prefix_len_passes is_white bs k d (omega arith)))
      | inr h ↦
          let ne = eqb-false _ _ h in
          let le = prefix_len-le-length is_white bs in
          let lt : prefix_len is_white bs < length bs = omega arith in
          h ∙ sym (list_all_at is_white bs (prefix_len is_white bs) 0 lt (prefix_len_stops is_white bs 0 lt))
    ]

-- the codes of what follows
pub codes_after : (column : ℕ) (bs : List ℕ)
    → drop (indent (codes_from column bs)) (codes_from column bs) ≡ codes_from (column + indent (codes_from column bs)) (drop (prefix_len is_white bs) bs)
codes_after column [] = refl
codes_after column (b ∷ bs) =
    elim (cases_Bool (is_white b)) [
      | inl white ↦
          let at = column + width column b in
          let more = codes_from at bs in
          let n = length-codes_of column b in
          let e : indent (codes_from column (b ∷ bs)) ≡ length (codes_of column b) + indent more = indent_byte column b bs white ∙ omega arith in
          let f : at + indent more ≡ column + indent (codes_from column (b ∷ bs)) = let w = indent_byte column b bs white in omega arith in
          let s : prefix_len is_white (b ∷ bs) ≡ suc (prefix_len is_white bs) = let w = white_byte b bs white in omega arith in
          ap (λ k. drop k (codes_from column (b ∷ bs))) e
          ∙ ap (drop (length (codes_of column b) + indent more)) (codes_first column b bs)
          ∙ drop_front (codes_of column b) more (indent more)
          ∙ codes_after at bs
          ∙ ap (λ k. codes_from k (drop (prefix_len is_white bs) bs)) f
          ∙ ap (λ k. codes_from (column + indent (codes_from column (b ∷ bs))) (drop k (b ∷ bs))) (sym s)
      | inr dark ↦
          let e = indent_stop column b bs dark in
          let f : column ≡ column + indent (codes_from column (b ∷ bs)) = omega arith in
          ap (λ k. drop k (codes_from column (b ∷ bs))) e
          ∙ ap (λ k. codes_from k (b ∷ bs)) f
          ∙ ap (λ k. codes_from (column + indent (codes_from column (b ∷ bs))) (drop k (b ∷ bs))) (sym (dark_byte b bs dark))
    ]

-- ---- one column

first_white : (b : ℕ) (bs : List ℕ) → 0 < prefix_len is_white (b ∷ bs) → is_white b ≡ true
first_white b bs some =
    elim (cases_Bool (is_white b)) [
      | inl white ↦ white
      | inr dark ↦ let e = dark_byte b bs dark in absurd (omega arith)
    ]

pub column_taken : (column : ℕ) (bs : List ℕ) (wide : ℕ) → 0 < prefix_len is_white bs → wide ≡ width column (get_or bs 0 0)
    → drop 1 (codes_from column bs) ≡ replicate (wide - 1) tab_column ++ codes_from (column + wide) (drop 1 bs)
column_taken column [] wide some e = absurd (omega arith)
column_taken column (b ∷ bs) wide some e =
    let n = length-codes_of column b in
    let w = (width_bounds column b).0 in
    let fits : 1 ≤ length (codes_of column b) = omega arith in
    ap (drop 1) (codes_first column b bs)
    ∙ drop-append-le 1 (codes_of column b) (codes_from (column + width column b) bs) fits
    ∙ ap (λ c. c ++ codes_from (column + width column b) bs) (after_first_column column b)
    ∙ ap (λ k. replicate (k - 1) tab_column ++ codes_from (column + k) bs) (sym e)

pub white_taken : (bs : List ℕ) → 0 < prefix_len is_white bs → prefix_len is_white bs ≡ 1 + prefix_len is_white (drop 1 bs)
white_taken [] some = absurd (omega arith)
white_taken (b ∷ bs) some = white_byte b bs (first_white b bs some)

pub indent_taken : (column : ℕ) (bs : List ℕ) (wide : ℕ) → 0 < prefix_len is_white bs → wide ≡ width column (get_or bs 0 0)
    → indent (codes_from column bs) ≡ wide + indent (codes_from (column + wide) (drop 1 bs))
indent_taken column [] wide some e = absurd (omega arith)
indent_taken column (b ∷ bs) wide some e =
    indent_byte column b bs (first_white b bs some) ∙ ap (λ k. k + indent (codes_from (column + k) bs)) (sym e)
