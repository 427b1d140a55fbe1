-- Where the columns of a line are among its bytes (CommonMark 2.2).
use Rattle.std.proofs.Common.{◌≡◌, ℕ, ◌+◌, ◌-◌, ◌<◌, ◌≤◌, suc, zero, true, false, cond, ◌||◌, List, [], ◌∷◌, ◌++◌, eqb, ltb, inl, inr, refl, sym, ap, ◌∙◌}
use Rattle.std.proofs.Common.{subst, arith, get_or, drop, take, length}
use Rattle.parse_lines.proofs.Prelude.{bare, bytes_of, bytes_of_codes, cases_Bool, cases_lt, codes_from, column_after, column_past, columns_after_tab}
use Rattle.parse_lines.proofs.Prelude.{cond-false, cond-true, drop-nil, eqb-true, is_tab_column, is_white, no_bytes, no_columns, or_parts, prefix_len}
use Rattle.parse_lines.proofs.Prelude.{replicate, Rest, tab_column, tab_size, width}
use Rattle.std.specs.Prelude.{◌⊎◌}
use Rattle.std.proofs.lemmas.Bool.{eqb-false, ltb-true, ltb-false}

-- ---- the codes of the first byte

width_tab : (c b : ℕ) → eqb b 9 ≡ true → width c b ≡ 1 + columns_after_tab c
width_tab c b h = cond-true (eqb b 9) _ _ h

width_other : (c b : ℕ) → eqb b 9 ≡ false → width c b ≡ 1
width_other c b h = cond-false (eqb b 9) _ _ h

pub codes_first : (c b : ℕ) (bs : List ℕ) → codes_from c (b ∷ bs) ≡ b ∷ (replicate (width c b - 1) tab_column ++ codes_from (c + width c b) bs)
codes_first c b bs =
    elim (cases_Bool (eqb b 9)) [
      | inl h ↦
          let w = width_tab c b h in
          let less : columns_after_tab c ≡ width c b - 1 = omega arith in
          let on : c + 1 + columns_after_tab c ≡ c + width c b = omega arith in
          cond-true (eqb b 9) _ _ h
          ∙ ap (λ (x : ℕ). x ∷ (replicate (columns_after_tab c) tab_column ++ codes_from (c + 1 + columns_after_tab c) bs)) (sym (eqb-true b 9 h))
          ∙ ap (λ (k : ℕ). b ∷ (replicate k tab_column ++ codes_from (c + 1 + columns_after_tab c) bs)) less
          ∙ ap (λ (k : ℕ). b ∷ (replicate (width c b - 1) tab_column ++ codes_from k bs)) on
      | inr h ↦
          let w = width_other c b h in
          let none : 0 ≡ width c b - 1 = omega arith in
          let on : c + 1 ≡ c + width c b = omega arith in
          cond-false (eqb b 9) _ _ h
          ∙ ap (λ (k : ℕ). b ∷ (replicate k tab_column ++ codes_from (c + 1) bs)) none
          ∙ ap (λ (k : ℕ). b ∷ (replicate (width c b - 1) tab_column ++ codes_from k bs)) on
    ]

pub some_width : (c b : ℕ) → 1 ≤ width c b
some_width c b =
    elim (cases_Bool (eqb b 9)) [
      | inl h ↦ let w = width_tab c b h in omega arith
      | inr h ↦ let w = width_other c b h in omega arith
    ]

pub drop_columns : (n k : ℕ) (rest : Rest) → n ≤ k → drop n (replicate k tab_column ++ rest) ≡ replicate (k - n) tab_column ++ rest
drop_columns zero k rest le = let e : k ≡ k - 0 = omega arith in ap (λ (m : ℕ). replicate m tab_column ++ rest) e
drop_columns (suc n) zero rest le = absurd (omega arith)
drop_columns (suc n) (suc k) rest le =
    let e : k - n ≡ suc k - suc n = omega arith in
    drop_columns n k rest (omega arith) ∙ ap (λ (m : ℕ). replicate m tab_column ++ rest) e

pub drop_past : (n k : ℕ) (rest : Rest) → k ≤ n → drop n (replicate k tab_column ++ rest) ≡ drop (n - k) rest
drop_past n zero rest le = let e : n ≡ n - 0 = omega arith in ap (λ (m : ℕ). drop m rest) e
drop_past zero (suc k) rest le = absurd (omega arith)
drop_past (suc n) (suc k) rest le =
    let e : n - k ≡ suc n - suc k = omega arith in
    drop_past n k rest (omega arith) ∙ ap (λ (m : ℕ). drop m rest) e

pub drop_more_codes : (n : ℕ) (x : ℕ) (xs : Rest) → 1 ≤ n → drop n (x ∷ xs) ≡ drop (n - 1) xs
drop_more_codes zero x xs le = absurd (omega arith)
drop_more_codes (suc n) x xs le = let e : n ≡ suc n - 1 = omega arith in ap (λ (m : ℕ). drop m xs) e

owed_columns : (k : ℕ) (rest : Rest) → prefix_len is_tab_column rest ≡ 0 → prefix_len is_tab_column (replicate k tab_column ++ rest) ≡ k
owed_columns zero rest none = none
owed_columns (suc k) rest none = let e = owed_columns k rest none in omega arith

-- ---- after so many columns of a line

-- how many bytes are before, and how many columns of the next one
abbrev pub past : ℕ → List ℕ → ℕ → ℕ
past c [] n = 0
past c (b ∷ bs) n = cond (ltb n (width c b)) 0 (suc (past (c + width c b) bs (n - width c b)))

abbrev pub inside : ℕ → List ℕ → ℕ → ℕ
inside c [] n = 0
inside c (b ∷ bs) n = cond (ltb n (width c b)) n (inside (c + width c b) bs (n - width c b))

-- a place is no further on than one after more columns
pub onward : (c : ℕ) (bs : List ℕ) (n m : ℕ) → n ≤ m → (past c bs n ≤ past c bs m) × (past c bs n ≡ past c bs m → inside c bs n ≤ inside c bs m)
onward c [] n m le = (omega arith, λ e. omega arith)
onward c (b ∷ bs) n m le =
    let w = width c b in
    let more = onward (c + w) bs (n - w) (m - w) (omega arith) in
    elim (cases_Bool (ltb n w)) [
      | inl h ↦
          let p : past c (b ∷ bs) n ≡ 0 = cond-true (ltb n w) _ _ h in
          let i : inside c (b ∷ bs) n ≡ n = cond-true (ltb n w) _ _ h in (
            omega arith,
            λ e. elim (cases_Bool (ltb m w)) [
              | inl k ↦ let j : inside c (b ∷ bs) m ≡ m = cond-true (ltb m w) _ _ k in omega arith
              | inr k ↦ let q : past c (b ∷ bs) m ≡ suc (past (c + w) bs (m - w)) = cond-false (ltb m w) _ _ k in absurd (omega arith)
            ],
          )
      | inr h ↦
          let p : past c (b ∷ bs) n ≡ suc (past (c + w) bs (n - w)) = cond-false (ltb n w) _ _ h in
          let i : inside c (b ∷ bs) n ≡ inside (c + w) bs (n - w) = cond-false (ltb n w) _ _ h in
          elim (cases_Bool (ltb m w)) [
            | inl k ↦ let lt = ltb-true m w k in let ge = ltb-false n w h in absurd (omega arith)
            | inr k ↦
                let q : past c (b ∷ bs) m ≡ suc (past (c + w) bs (m - w)) = cond-false (ltb m w) _ _ k in
                let j : inside c (b ∷ bs) m ≡ inside (c + w) bs (m - w) = cond-false (ltb m w) _ _ k in
                (omega (arith, more.0), λ e. let le_in = more.1 (omega arith) in omega arith)
          ]
    ]

-- between two bytes
pub record IsBetweenBytes (bs : List ℕ) (past inside owed left : ℕ) : Type 0 where
  pub inside_none : inside ≡ 0
  pub owed_none : owed ≡ 0
  pub sizes : past + left ≡ length bs

-- in a tab: columns of it are before and after
pub record IsInTabOf (bs : List ℕ) (column past inside owed left : ℕ) : Type 0 where
  pub inside_some : 0 < inside
  pub owed_some : 0 < owed
  pub width : inside + owed ≡ tab_size (column_past (take past bs) column)
  pub tab : get_or bs past 0 ≡ 9
  pub sizes : past + 1 + left ≡ length bs

-- a place among bytes that begin at a column, of which the first is 1
abbrev pub IsAmong : List ℕ → ℕ → ℕ → ℕ → ℕ → ℕ → Type 0
IsAmong bs column past inside owed left = IsBetweenBytes bs past inside owed left ⊎ IsInTabOf bs column past inside owed left

pub tail_bytes : (b : ℕ) (bs : List ℕ) → ((k : ℕ) → get_or (b ∷ bs) k 0 < 256) → (k : ℕ) → get_or bs k 0 < 256
tail_bytes b bs h k = h (suc k)

tab_sizes : (c : ℕ) → tab_size (c + 1) ≡ 1 + columns_after_tab c
tab_sizes c = omega arith

column_next : (c b : ℕ) → column_after b (c + 1) ≡ (c + width c b) + 1
column_next c b =
    elim (cases_Bool (eqb b 9)) [
      | inl h ↦
          let w = width_tab c b h in
          let e : column_after b (c + 1) ≡ (c + 1) + tab_size (c + 1) = cond-true (eqb b 9) _ _ h in
          let t = tab_sizes c in
          omega arith
      | inr h ↦
          let w = width_other c b h in
          let e : column_after b (c + 1) ≡ (c + 1) + 1 = cond-false (eqb b 9) _ _ h in
          omega arith
    ]

-- one byte before it
among_more : (b : ℕ) (bs : List ℕ) (c past inside owed left : ℕ) → IsAmong bs ((c + width c b) + 1) past inside owed left
    → IsAmong (b ∷ bs) (c + 1) (suc past) inside owed left
among_more b bs c past inside owed left (inl at) =
    let s = at.sizes in
    inl (record { inside_none = at.inside_none; owed_none = at.owed_none; sizes = omega arith })
among_more b bs c past inside owed left (inr at) =
    let s = at.sizes in
    inr (record {
      inside_some = at.inside_some;
      owed_some = at.owed_some;
      width = at.width ∙ ap (λ (x : ℕ). tab_size (column_past (take past bs) x)) (sym (column_next c b));
      tab = at.tab;
      sizes = omega arith;
    })

pub ne_zero : (n : ℕ) → eqb n 0 ≡ false → 1 ≤ n
ne_zero n z = elim (cases_lt 0 n) [ inl lt ↦ omega arith | inr le ↦ let e : n ≡ 0 = omega arith in absurd (eqb-false n 0 z e) ]

-- only a tab has more than one column
wide_tab : (c b : ℕ) → 2 ≤ width c b → eqb b 9 ≡ true
wide_tab c b wide = elim (cases_Bool (eqb b 9)) [ inl h ↦ h | inr h ↦ let w = width_other c b h in absurd (omega arith) ]

-- what is left after so many columns
pub among : (c : ℕ) (bs : List ℕ) (n : ℕ) → ((k : ℕ) → get_or bs k 0 < 256)
    → IsAmong bs (c + 1) (past c bs n) (inside c bs n) (prefix_len is_tab_column (drop n (codes_from c bs))) (length (bytes_of (drop n (codes_from c bs))))
among c [] n h =
    let none : drop n [] ≡ [] = drop-nil n in
    subst (λ (r : Rest). IsAmong [] (c + 1) 0 0 (prefix_len is_tab_column r) (length (bytes_of r))) (sym none)
    (inl (record { inside_none = refl; owed_none = refl; sizes = omega arith }))
among c (b ∷ bs) n h =
    let w = width c b in
    let all = codes_from c (b ∷ bs) in
    let others = codes_from (c + w) bs in
    let some = some_width c b in
    elim (cases_Bool (ltb n w)) [
      | inl t ↦
          let lt = ltb-true n w t in
          let p : past c (b ∷ bs) n ≡ 0 = cond-true (ltb n w) _ _ t in
          let i : inside c (b ∷ bs) n ≡ n = cond-true (ltb n w) _ _ t in
          elim (cases_Bool (eqb n 0)) [
            | inl z ↦
                let e : n ≡ 0 = eqb-true n 0 z in
                let is : drop n all ≡ all = ap (λ (m : ℕ). drop m all) e in
                let owed : prefix_len is_tab_column (drop n all) ≡ 0 = ap (prefix_len is_tab_column) is ∙ no_columns c (b ∷ bs) h in
                let left : length (bytes_of (drop n all)) ≡ length (b ∷ bs) =
                ap (λ (r : Rest). length (bytes_of r)) is ∙ ap length (bytes_of_codes c (b ∷ bs) h) in
                inl (record { inside_none = i ∙ e; owed_none = owed; sizes = omega arith })
            | inr z ↦
                let ne = ne_zero n z in
                let is : drop n all ≡ replicate (w - 1 - (n - 1)) tab_column ++ others =
                ap (drop n) (codes_first c b bs)
                ∙ drop_more_codes n b (replicate (w - 1) tab_column ++ others) ne
                ∙ drop_columns (n - 1) (w - 1) others (omega arith) in
                let owed : prefix_len is_tab_column (drop n all) ≡ w - 1 - (n - 1) =
                ap (prefix_len is_tab_column) is ∙ owed_columns (w - 1 - (n - 1)) others (no_columns (c + w) bs (tail_bytes b bs h)) in
                let left : length (bytes_of (drop n all)) ≡ length bs =
                ap (λ (r : Rest). length (bytes_of r)) is ∙ ap length (no_bytes (w - 1 - (n - 1)) others ∙ bytes_of_codes (c + w) bs (tail_bytes b bs h)) in
                let tab = wide_tab c b (omega arith) in
                let wide = width_tab c b tab in
                let size = tab_sizes c in
                let first : column_past (take (past c (b ∷ bs) n) (b ∷ bs)) (c + 1) ≡ c + 1 = ap (λ (m : ℕ). column_past (take m (b ∷ bs)) (c + 1)) p in
                let size_first : tab_size (column_past (take (past c (b ∷ bs) n) (b ∷ bs)) (c + 1)) ≡ tab_size (c + 1) = ap tab_size first in
                inr (record {
                  inside_some = omega arith;
                  owed_some = omega arith;
                  width = omega arith;
                  tab = ap (λ (m : ℕ). get_or (b ∷ bs) m 0) p ∙ eqb-true b 9 tab;
                  sizes = omega arith;
                })
          ]
      | inr t ↦
          let ge = ltb-false n w t in
          let p : past c (b ∷ bs) n ≡ suc (past (c + w) bs (n - w)) = cond-false (ltb n w) _ _ t in
          let i : inside c (b ∷ bs) n ≡ inside (c + w) bs (n - w) = cond-false (ltb n w) _ _ t in
          let fewer : (n - 1) - (w - 1) ≡ n - w = omega arith in
          let is : drop n all ≡ drop (n - w) others =
          ap (drop n) (codes_first c b bs)
          ∙ drop_more_codes n b (replicate (w - 1) tab_column ++ others) (omega arith)
          ∙ drop_past (n - 1) (w - 1) others (omega arith)
          ∙ ap (λ (m : ℕ). drop m others) fewer in
          let more = among_more b bs c (past (c + w) bs (n - w)) (inside (c + w) bs (n - w)) _ _ (among (c + w) bs (n - w) (tail_bytes b bs h)) in
          subst (λ (q : ℕ). IsAmong (b ∷ bs) (c + 1) q (inside c (b ∷ bs) n) (prefix_len is_tab_column (drop n all)) (length (bytes_of (drop n all)))) (sym p) (
          subst (λ (j : ℕ). IsAmong (b ∷ bs) (c + 1) (suc (past (c + w) bs (n - w))) j (prefix_len is_tab_column (drop n all)) (length (bytes_of (drop n all))))
          (sym i) (
          subst (λ (r : Rest). IsAmong (b ∷ bs) (c + 1) (suc (past (c + w) bs (n - w))) (inside (c + w) bs (n - w)) (prefix_len is_tab_column r)
          (length (bytes_of r)))
          (sym is) more
          )
          )
    ]

-- ---- white space ahead

-- a code that isn't white is a byte
pub dark_is_byte : (c : ℕ) → is_white c ≡ false → is_tab_column c ≡ false
dark_is_byte c h = (or_parts (eqb c 32 || eqb c 9) (eqb c 256) h).1

-- no column of a tab is first after the white space ahead
pub bare_owes_none : (rest : Rest) → prefix_len is_tab_column (bare rest) ≡ 0
bare_owes_none [] = refl
bare_owes_none (c ∷ cs) =
    elim (cases_Bool (is_white c)) [
      | inl h ↦
          let e : prefix_len is_white (c ∷ cs) ≡ suc (prefix_len is_white cs) = cond-true (is_white c) _ _ h ∙ omega arith in
          ap (λ (n : ℕ). prefix_len is_tab_column (drop n (c ∷ cs))) e ∙ bare_owes_none cs
      | inr h ↦
          let e : prefix_len is_white (c ∷ cs) ≡ 0 = cond-false (is_white c) _ _ h in
          ap (λ (n : ℕ). prefix_len is_tab_column (drop n (c ∷ cs))) e ∙ cond-false (is_tab_column c) _ _ (dark_is_byte c h)
    ]

-- nor after a code that isn't white
pub dark_owes_none : (c : ℕ) (bs : List ℕ) (n x : ℕ) (xs : Rest) → ((k : ℕ) → get_or bs k 0 < 256) → drop n (codes_from c bs) ≡ x ∷ xs
    → is_white x ≡ false → prefix_len is_tab_column xs ≡ 0
dark_owes_none c [] n x xs h is dark = let e = sym (drop-nil n) ∙ is in absurd (cc)
dark_owes_none c (b ∷ bs) n x xs h is dark =
    let w = width c b in
    let others = codes_from (c + w) bs in
    let some = some_width c b in
    elim (cases_lt n w) [
      | inl lt ↦
          elim (cases_Bool (eqb n 0)) [
            | inl z ↦
                let e : n ≡ 0 = eqb-true n 0 z in
                let first : b ∷ (replicate (w - 1) tab_column ++ others) ≡ x ∷ xs =
                sym (ap (λ (m : ℕ). drop m (codes_from c (b ∷ bs))) e ∙ codes_first c b bs) ∙ is in
                let same : b ≡ x = cc in
                let rest : replicate (w - 1) tab_column ++ others ≡ xs = cc in
                let one : w - 1 ≡ 0 = elim (cases_Bool (eqb b 9)) [
                  | inl t ↦ let tab = eqb-true b 9 t in let white : is_white x ≡ true = ap is_white (sym same ∙ tab) in absurd (cc)
                  | inr t ↦ let wide = width_other c b t in omega arith
                ] in
                sym (ap (prefix_len is_tab_column) rest)
                ∙ ap (λ (k : ℕ). prefix_len is_tab_column (replicate k tab_column ++ others)) one
                ∙ no_columns (c + w) bs (tail_bytes b bs h)
            | inr z ↦
                let ne = ne_zero n z in
                let k : (w - 1) - (n - 1) ≡ suc ((w - 1) - n) = omega arith in
                let first : replicate ((w - 1) - (n - 1)) tab_column ++ others ≡ x ∷ xs =
                sym (ap (drop n) (codes_first c b bs) ∙ drop_more_codes n b (replicate (w - 1) tab_column ++ others) ne
                ∙ drop_columns (n - 1) (w - 1) others (omega arith)) ∙ is in
                let same : tab_column ∷ (replicate ((w - 1) - n) tab_column ++ others) ≡ x ∷ xs =
                sym (ap (λ (m : ℕ). replicate m tab_column ++ others) k) ∙ first in
                let column : tab_column ≡ x = cc in
                let white : is_white x ≡ true = ap is_white (sym column) in
                absurd (cc)
          ]
      | inr ge ↦
          let fewer : (n - 1) - (w - 1) ≡ n - w = omega arith in
          let on : drop n (codes_from c (b ∷ bs)) ≡ drop (n - w) others =
          ap (drop n) (codes_first c b bs)
          ∙ drop_more_codes n b (replicate (w - 1) tab_column ++ others) (omega arith)
          ∙ drop_past (n - 1) (w - 1) others (omega arith)
          ∙ ap (λ (m : ℕ). drop m others) fewer in
          dark_owes_none (c + w) bs (n - w) x xs (tail_bytes b bs h) (sym on ∙ is) dark
    ]
