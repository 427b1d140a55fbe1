-- An escaped line begins nothing but a paragraph, and no byte order mark.
use Rattle.std.proofs.Common.{inl, inr, ◌≡◌, ℕ, suc, true, false, ◌&&◌, ◌||◌, ◌+◌, List, [], ◌∷◌, None, refl, sym, ap, ◌∙◌, drop, arith}
use Rattle.laws_escape.proofs.Prelude.{after_number, and_parts, cases_Bool, cond-false, cond-true, has_mark, is_ascii_punctuation, is_digit, is_line_byte}
use Rattle.laws_escape.proofs.Prelude.{IsTrimmedLine, list_all, ltb-true, nat_lt, or_from, or_parts, prefix_len, with_backslashes, ◌==◌}
use Rattle.std.specs.Prelude.{not}
use Rattle.laws_escape.proofs.PlainText.{AreInLine, and_no}
use Rattle.laws_escape.proofs.Escaped.{no_and, other, line_byte, not_white, escaped_punctuation, escaped_other}
use Rattle.laws_escape.proofs.BeginsNothing.{BeginsNothing, apart_both}

-- codes that begin nothing
pub record Begins (codes : List ℕ) : Type 0 where
  pub first : ℕ
  pub others : List ℕ
  pub are : codes ≡ first ∷ others
  pub line : BeginsNothing first others

-- a byte is escaped, or stands as it is
split : (P : List ℕ → Type 0) (b : ℕ) (bs : List ℕ) → (is_ascii_punctuation b ≡ true → P (92 ∷ b ∷ with_backslashes bs))
    → (is_ascii_punctuation b ≡ false → P (b ∷ with_backslashes bs)) → P (with_backslashes (b ∷ bs))
split P b bs on off =
    elim (cases_Bool (is_ascii_punctuation b)) [
      | inl e ↦ rw (escaped_punctuation b bs e) (on e)
      | inr e ↦ rw (escaped_other b bs e) (off e)
    ]

-- ---- what begins no block

line_bytes : (bytes : List ℕ) → list_all is_line_byte bytes ≡ true → list_all is_line_byte (with_backslashes bytes) ≡ true
line_bytes [] all = refl
line_bytes (b ∷ bs) all =
    let parts = and_parts (is_line_byte b) (list_all is_line_byte bs) all in
    let later = ap (λ x. x && list_all is_line_byte (with_backslashes bs)) parts.0 ∙ line_bytes bs parts.1 in
    split (λ xs. list_all is_line_byte xs ≡ true) b bs (λ _. later) (λ _. later)

no_delimiter_after : (number digits : ℕ) (bytes : List ℕ)
    → after_number number digits (drop (prefix_len is_digit (with_backslashes bytes)) (with_backslashes bytes)) ≡ None
no_delimiter_after number digits [] = refl
no_delimiter_after number digits (b ∷ bs) =
    let later = no_delimiter_after number digits bs in
    split (λ xs. after_number number digits (drop (prefix_len is_digit xs) xs) ≡ None) b bs (λ _. refl)
    (λ off. elim (cases_Bool (is_digit b)) [
      | inl digit ↦
          let one_more : prefix_len is_digit (b ∷ with_backslashes bs) ≡ suc (prefix_len is_digit (with_backslashes bs)) =
          cond-true (is_digit b) (1 + prefix_len is_digit (with_backslashes bs)) 0 digit ∙ omega arith in
          ap (λ n. after_number number digits (drop n (b ∷ with_backslashes bs))) one_more ∙ later
      | inr no_digit ↦
          ap (λ n. after_number number digits (drop n (b ∷ with_backslashes bs)))
          (cond-false (is_digit b) (1 + prefix_len is_digit (with_backslashes bs)) 0 no_digit)
          ∙ cond-false ((b == 46) || (b == 41)) _ None (or_from (b == 46) (b == 41) (other b 46 off refl) (other b 41 off refl))
    ])

marks_nothing : (b : ℕ) (bs others : List ℕ) (first : ℕ) → with_backslashes (b ∷ bs) ≡ first ∷ others → (number digits : ℕ)
    → after_number number digits (drop (prefix_len is_digit (first ∷ others)) (first ∷ others)) ≡ None
marks_nothing b bs others first are number digits =
    ap (λ xs. after_number number digits (drop (prefix_len is_digit xs) xs)) (sym are) ∙ no_delimiter_after number digits (b ∷ bs)

pub begins_nothing : (b : ℕ) (bs : List ℕ) → IsTrimmedLine (b ∷ bs) → Begins (with_backslashes (b ∷ bs))
begins_nothing b bs h =
    elim (cases_Bool (is_ascii_punctuation b)) [
      | inl on ↦
          let are = escaped_punctuation b bs on in
          record {
            first = 92;
            others = b ∷ with_backslashes bs;
            are = are;
            line = record {
              bytes = ap (list_all is_line_byte) (sym are) ∙ line_bytes (b ∷ bs) h.0;
              no_white = refl;
              no_punctuation = λ x punctuation differs. apart_both x 92 differs;
              no_delimiter = marks_nothing b bs (b ∷ with_backslashes bs) 92 are;
            };
          }
      | inr off ↦
          let are = escaped_other b bs off in
          record {
            first = b;
            others = with_backslashes bs;
            are = are;
            line = record {
              bytes = ap (list_all is_line_byte) (sym are) ∙ line_bytes (b ∷ bs) h.0;
              no_white = not_white b (and_parts (is_line_byte b) (list_all is_line_byte bs) h.0).0 h.1;
              no_punctuation = λ x punctuation differs. other b x off punctuation;
              no_delimiter = marks_nothing b bs (with_backslashes bs) b are;
            };
          }
    ]

-- ---- the bytes of a line

pub in_line : (bytes : List ℕ) → list_all is_line_byte bytes ≡ true → AreInLine bytes
in_line [] all = tt
in_line (b ∷ bs) all =
    let parts = and_parts (is_line_byte b) (list_all is_line_byte bs) all in
    let small = (and_parts (nat_lt b 256) (not _) parts.0).0 in
    ((or_parts ((b == 10) || (b == 13)) (b == 257) (line_byte b parts.0).1).0, ltb-true b 256 small, in_line bs parts.1)

pub escaped_in_line : (bytes : List ℕ) → list_all is_line_byte bytes ≡ true → AreInLine (with_backslashes bytes)
escaped_in_line bytes all = in_line (with_backslashes bytes) (line_bytes bytes all)

-- ---- no byte order mark

no_first : (a : ℕ) (rest : List ℕ) → (a == 239) ≡ false → has_mark (a ∷ rest) ≡ false
no_first a [] apart = refl
no_first a (b ∷ []) apart = refl
no_first a (b ∷ c ∷ rest) apart = no_and _ _ (no_and (a == 239) (b == 187) apart)

no_second : (a b : ℕ) (rest : List ℕ) → (b == 187) ≡ false → has_mark (a ∷ b ∷ rest) ≡ false
no_second a b [] apart = refl
no_second a b (c ∷ rest) apart = no_and _ _ (and_no (a == 239) (b == 187) apart)

no_third : (a b : ℕ) (bs : List ℕ) → has_mark (a ∷ b ∷ bs) ≡ false → has_mark (a ∷ b ∷ with_backslashes bs) ≡ false
no_third a b [] h = refl
no_third a b (c ∷ cs) h = split (λ xs. has_mark (a ∷ b ∷ xs) ≡ false) c cs (λ _. and_no _ (92 == 191) refl) (λ _. h)

no_later : (a : ℕ) (bs : List ℕ) → has_mark (a ∷ bs) ≡ false → has_mark (a ∷ with_backslashes bs) ≡ false
no_later a [] h = refl
no_later a (b ∷ bs) h = split (λ xs. has_mark (a ∷ xs) ≡ false) b bs (λ _. no_second a 92 (b ∷ with_backslashes bs) refl) (λ _. no_third a b bs h)

pub no_mark : (bytes : List ℕ) → has_mark bytes ≡ false → has_mark (with_backslashes bytes) ≡ false
no_mark [] h = refl
no_mark (a ∷ bs) h = split (λ xs. has_mark xs ≡ false) a bs (λ _. no_first 92 (a ∷ with_backslashes bs) refl) (λ _. no_later a bs h)
