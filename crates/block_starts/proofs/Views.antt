-- What cursors stand for.
use Rattle.std.proofs.Common.{◌≡◌, ℕ, ◌+◌, ◌-◌, ◌*◌, ◌<◌, ◌≤◌, suc, zero, List, [], ◌∷◌, ◌++◌, true, false, inl, inr, eqb, leb, refl, sym, ap, ◌∙◌, length}
use Rattle.std.proofs.Common.{get_or, replicate, take, drop, arith}
use Rattle.std.specs.List.{prefix_len}
use Rattle.std.proofs.lemmas.List.{length-replicate, take_at}
use Rattle.std.proofs.lemmas.List.Sums.{prefix_len-le-length}
use Rattle.std.proofs.lemmas.Bool.{cases_Bool, cond-true, cond-false, eqb-true, ne_eqb, and_parts, leb-true}
use Rattle.std.proofs.lemmas.Bool.Decides.{nat_tests}
use Rattle.definition_text.specs.Columns.{Rest, codes_from, is_white, is_blank, indent, bare, bytes_of, block_codes, is_tab_column, tab_column}
use Rattle.definition_block.specs.ListItem.{is_digit}
use Rattle.text_lines.proofs.Codes.{all_white, blank_codes_from, bytes_of_codes, no_bytes, no_columns}
use Rattle.block_starts.specs.Marks.{NoMark, is_mark}
use Rattle.block_starts.specs.declared.cursor.Cursor.{Cursor}
use Rattle.block_starts.specs.View.{rest_of}
use Rattle.block_starts.proofs.White.{indent_front, drop_front, white_columns, codes_after, white_all, indent_bound}

-- ---- the parts of a view

abbrev pub view : ℕ → ℕ → List ℕ → Rest
view owed column bs = replicate owed tab_column ++ codes_from column bs

first_code : (column b : ℕ) (bs : List ℕ) → get_or (codes_from column (b ∷ bs)) 0 0 ≡ b
first_code column b bs =
    elim (cases_Bool (eqb b 9)) [
      | inl h ↦ ap (λ r. get_or r 0 0) (cond-true (eqb b 9) _ _ h) ∙ sym (eqb-true b 9 h)
      | inr h ↦ ap (λ r. get_or r 0 0) (cond-false (eqb b 9) _ _ h)
    ]

owed_parts : (owed : ℕ) (rest : Rest) → prefix_len is_tab_column rest ≡ 0 → prefix_len is_tab_column (replicate owed tab_column ++ rest) ≡ owed
owed_parts zero rest h = h
owed_parts (suc owed) rest h = let e = owed_parts owed rest h in omega (arith, e)

indent_owed : (owed column : ℕ) (bs : List ℕ) → indent (view owed column bs) ≡ owed + indent (codes_from column bs)
indent_owed owed column bs =
    indent_front (replicate owed tab_column) (codes_from column bs) (white_columns owed)
    ∙ ap (λ n. n + indent (codes_from column bs)) (length-replicate owed tab_column)

pub view_none : (owed column : ℕ) (bs : List ℕ) → owed ≤ 0 → view owed column bs ≡ codes_from column bs
view_none owed column bs none = let e : owed ≡ 0 = omega arith in ap (λ n. view n column bs) e

-- ---- what a cursor holds

pub blank_view : (c : Cursor) → is_blank (rest_of c) ≡ eqb (prefix_len is_white c.text.now) (length c.text.now)
unfolding rest_of
blank_view c = all_white c.owed (codes_from c.column c.text.now) ∙ blank_codes_from c.column c.text.now ∙ sym (white_all c.text.now)

pub bytes_view : (c : Cursor) → ((k : ℕ) → get_or c.text.now k 0 < 256) → bytes_of (rest_of c) ≡ c.text.now
unfolding rest_of
bytes_view c bytes = no_bytes c.owed (codes_from c.column c.text.now) ∙ bytes_of_codes c.column c.text.now bytes

pub owed_view : (c : Cursor) → ((k : ℕ) → get_or c.text.now k 0 < 256) → prefix_len is_tab_column (rest_of c) ≡ c.owed
unfolding rest_of
owed_view c bytes = owed_parts c.owed (codes_from c.column c.text.now) (no_columns c.column c.text.now bytes)

pub codes_view : (c : Cursor) → ((k : ℕ) → get_or c.text.now k 0 < 256) → block_codes (rest_of c) ≡ replicate c.owed tab_column ++ bytes_of (rest_of c)
unfolding rest_of
codes_view c bytes =
    ap (λ n. take n (rest_of c) ++ bytes_of (rest_of c)) (owed_view c bytes)
    ∙ ap (λ front. front ++ bytes_of (rest_of c)) (take_at (replicate c.owed tab_column) (codes_from c.column c.text.now) c.owed
    (length-replicate c.owed tab_column))

pub indent_view : (c : Cursor) → indent (rest_of c) ≡ c.owed + indent (codes_from c.column c.text.now)
unfolding rest_of
indent_view c = indent_owed c.owed c.column c.text.now

-- the spaces and tabs ahead are in the text, and no tab is wider than four columns
pub white_view : (c : Cursor) → (c.columns ≤ 4 * c.white) × (c.white ≤ length c.text.now)
white_view c =
    let front = c.front in
    let wide = c.wide in
    let bound = indent_bound c.column c.text.now in
    let within = prefix_len-le-length is_white c.text.now in
    (omega arith, omega arith)

-- ---- columns that are taken

pub bare_view : (owed column : ℕ) (bs : List ℕ)
    → bare (view owed column bs) ≡ codes_from (column + indent (codes_from column bs)) (drop (prefix_len is_white bs) bs)
bare_view owed column bs =
    let codes = codes_from column bs in
    let n = length-replicate owed tab_column in
    let e : indent (view owed column bs) ≡ length (replicate owed tab_column) + indent codes = indent_owed owed column bs ∙ omega arith in
    ap (λ k. drop k (view owed column bs)) e ∙ drop_front (replicate owed tab_column) codes (indent codes) ∙ codes_after column bs

pub column_owed : (owed column : ℕ) (bs : List ℕ) → 0 < owed → view (owed - 1) column bs ≡ drop 1 (view owed column bs)
column_owed zero column bs some = absurd (omega arith)
column_owed (suc owed) column bs some = let e : suc owed - 1 ≡ owed = omega arith in ap (λ n. view n column bs) e

-- where no column of a tab is ahead, a column ahead is a space's or a tab's
pub some_white : (c : Cursor) → c.owed ≤ 0 → 0 < indent (rest_of c) → 0 < prefix_len is_white c.text.now
some_white c none some =
    let e = indent_view c in
    let bound = indent_bound c.column c.text.now in
    omega arith

-- a front of the columns ahead is taken
pub indent_dropped : (n : ℕ) (rest : Rest) → n ≤ indent rest → indent (drop n rest) ≡ indent rest - n
indent_dropped zero rest le = omega arith
indent_dropped (suc n) [] le = omega arith
indent_dropped (suc n) (b ∷ bs) le =
    elim (cases_Bool (is_white b)) [
      | inl white ↦
          let e = cond-true (is_white b) (1 + indent bs) 0 white in
          let less : n ≤ indent bs = omega arith in
          let more = indent_dropped n bs less in
          more ∙ omega arith
      | inr dark ↦ let e = cond-false (is_white b) (1 + indent bs) 0 dark in absurd (omega arith)
    ]

-- ---- the first byte

no_mark : (rest : Rest) → ((code : ℕ) → get_or rest 0 0 ≡ code → is_mark code ≡ false) → NoMark rest
no_mark rest h code codes e = h code (ap (λ r. get_or r 0 0) e)

pub no_mark_owed : (owed column : ℕ) (bs : List ℕ) → 0 < owed → NoMark (view owed column bs)
no_mark_owed zero column bs some = absurd (omega arith)
no_mark_owed (suc owed) column bs some = no_mark (view (suc owed) column bs) (λ code e. ap is_mark (sym e))

pub no_mark_nothing : (column : ℕ) (bs : List ℕ) → length bs ≡ 0 → NoMark (codes_from column bs)
no_mark_nothing column [] none = no_mark [] (λ code e. ap is_mark (sym e))
no_mark_nothing column (b ∷ bs) none = absurd (omega arith)

pub no_mark_byte : (column : ℕ) (bs : List ℕ) → 0 < length bs → is_mark (get_or bs 0 0) ≡ false → NoMark (codes_from column bs)
no_mark_byte column [] some h = absurd (omega arith)
no_mark_byte column (b ∷ bs) some h = no_mark (codes_from column (b ∷ bs)) (λ code e. ap is_mark (sym e ∙ first_code column b bs) ∙ h)

pub mark_ascii : (b : ℕ) → is_mark b ≡ true → (32 < b) × (b < 128)
mark_ascii b h = grind (arith, nat_tests)

pub mark_first : (column : ℕ) (bs : List ℕ) → 0 < length bs → 32 < get_or bs 0 0 → codes_from column bs ≡ get_or bs 0 0 ∷ codes_from (column + 1) (drop 1 bs)
mark_first column [] some high = absurd (omega arith)
mark_first column (b ∷ bs) some high = cond-false (eqb b 9) _ _ (ne_eqb b 9 (λ e. omega arith))

-- ---- digits

pub no_digits_owed : (owed column : ℕ) (bs : List ℕ) → 0 < owed → prefix_len is_digit (view owed column bs) ≡ 0
no_digits_owed zero column bs some = absurd (omega arith)
no_digits_owed (suc owed) column bs some = refl

digit_is_no_tab : (b : ℕ) → is_digit b ≡ true → eqb b 9 ≡ false
digit_is_no_tab b h = ne_eqb b 9 (λ e. let f : is_digit 9 ≡ true = ap is_digit (sym e) ∙ h in cc)

pub digits_codes : (column : ℕ) (bs : List ℕ) → prefix_len is_digit (codes_from column bs) ≡ prefix_len is_digit bs
digits_codes column [] = refl
digits_codes column (b ∷ bs) =
    elim (cases_Bool (is_digit b)) [
      | inl h ↦
          ap (prefix_len is_digit) (cond-false (eqb b 9) _ _ (digit_is_no_tab b h))
          ∙ cond-true (is_digit b) (1 + prefix_len is_digit (codes_from (column + 1) bs)) 0 h
          ∙ ap (λ n. 1 + n) (digits_codes (column + 1) bs)
          ∙ sym (cond-true (is_digit b) (1 + prefix_len is_digit bs) 0 h)
      | inr h ↦
          elim (cases_Bool (eqb b 9)) [
            | inl e ↦ ap (prefix_len is_digit) (cond-true (eqb b 9) _ _ e) ∙ sym (cond-false (is_digit b) (1 + prefix_len is_digit bs) 0 h)
            | inr e ↦
                ap (prefix_len is_digit) (cond-false (eqb b 9) _ _ e)
                ∙ cond-false (is_digit b) (1 + prefix_len is_digit (codes_from (column + 1) bs)) 0 h
                ∙ sym (cond-false (is_digit b) (1 + prefix_len is_digit bs) 0 h)
          ]
    ]

-- a front of digits has the same codes
pub front_of_digits : (n column : ℕ) (bs : List ℕ) → n ≤ prefix_len is_digit bs
    → (take n (codes_from column bs) ≡ take n bs) × (drop n (codes_from column bs) ≡ codes_from (column + n) (drop n bs))
front_of_digits zero column bs le = let e : column ≡ column + 0 = omega arith in (refl, ap (λ k. codes_from k bs) e)
front_of_digits (suc n) column [] le = (refl, refl)
front_of_digits (suc n) column (b ∷ bs) le =
    elim (cases_Bool (is_digit b)) [
      | inl h ↦
          let e = cond-true (is_digit b) (1 + prefix_len is_digit bs) 0 h in
          let less : n ≤ prefix_len is_digit bs = omega arith in
          let first : codes_from column (b ∷ bs) ≡ b ∷ codes_from (column + 1) bs = cond-false (eqb b 9) _ _ (digit_is_no_tab b h) in
          let more = front_of_digits n (column + 1) bs less in
          let at : column + 1 + n ≡ column + suc n = omega arith in
          (ap (take (suc n)) first ∙ ap (λ r. b ∷ r) more.0, ap (drop (suc n)) first ∙ more.1 ∙ ap (λ k. codes_from k (drop n bs)) at)
      | inr h ↦ let e = cond-false (is_digit b) (1 + prefix_len is_digit bs) 0 h in absurd (omega arith)
    ]

pub digit_ascii : (b : ℕ) → is_digit b ≡ true → b < 128
digit_ascii b h = let parts = and_parts (leb 48 b) (leb b 57) h in let le = leb-true b 57 parts.1 in omega arith

-- the digits that a text without columns left of a tab begins with
pub digits_taken : (column : ℕ) (bs : List ℕ) → take (prefix_len is_digit bs) bs ≡ take (prefix_len is_digit (codes_from column bs)) (codes_from column bs)
digits_taken column bs =
    sym (ap (λ n. take n (codes_from column bs)) (digits_codes column bs) ∙ (front_of_digits (prefix_len is_digit bs) column bs (omega arith)).0)

pub digits_dropped : (column : ℕ) (bs : List ℕ) → codes_from (column + prefix_len is_digit bs) (drop (prefix_len is_digit bs) bs)
    ≡ drop (prefix_len is_digit (codes_from column bs)) (codes_from column bs)
digits_dropped column bs =
    sym (ap (λ n. drop n (codes_from column bs)) (digits_codes column bs) ∙ (front_of_digits (prefix_len is_digit bs) column bs (omega arith)).1)
