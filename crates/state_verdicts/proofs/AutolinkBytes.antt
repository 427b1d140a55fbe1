-- The bytes of autolinks by the states and by the definition.
use Rattle.std.proofs.Common.{◌≡◌, ◌∙◌, ℕ, ◌<◌, ◌≤◌, Bool, true, false, not, nat_le, nat_lt, ◌==◌, ◌&&◌, ◌||◌, if◌then◌else◌, List, [], ◌∷◌, inl, inr, refl}
use Rattle.std.proofs.Common.{sym, ap, arith}
use Rattle.state_verdicts.proofs.Prelude.{and_parts, and_right, cases_lt, code_byte, codes, ends_url, eqb-false, eqb-true, is_ascii_alphanumeric, is_atext}
use Rattle.state_verdicts.proofs.Prelude.{is_code, is_email_byte, is_eol, is_in_range, is_scheme_byte, is_uri_byte, le-leb, le-ltb, list_all, list_any, lt-leb}
use Rattle.state_verdicts.proofs.Prelude.{lt-ltb, ltb-true, ne_eqb, or_cases, or_from, or_parts, text_byte}
use Rattle.std.proofs.lemmas.Bool.{agree_below_at}
use Rattle.state_verdicts.proofs.AutolinkStates.{is_scheme}

-- ---- names of emails

none_or : {x y : Bool} → x ≡ false → y ≡ false → (x || y) ≡ false
none_or {x} {y} h k = or_from x y h k

module _ (b : ℕ) (high : 128 ≤ b) where
  no_byte : (m : ℕ) → m < 128 → (b == m) ≡ false
  no_byte m low = ne_eqb b m (λ e. let f : b ≡ m = e in absurd (omega (arith, f, low, high)))

  no_range : (a z : ℕ) → z < 128 → is_in_range a z b ≡ false
  no_range a z low = and_right (nat_le a b) (nat_le b z) (lt-leb b z (omega (arith, low, high)))

  no_letter : is_ascii_alphanumeric b ≡ false
  no_letter = none_or (none_or (no_range 48 57 (omega arith)) (no_range 65 90 (omega arith))) (no_range 97 122 (omega arith))

  no_listed : (l : List ℕ) → list_all (λ (m : ℕ). nat_lt m 128) l ≡ true → list_any (λ (m : ℕ). b == m) l ≡ false
  no_listed [] low = refl
  no_listed (m ∷ l) low =
      let f = and_parts (nat_lt m 128) (list_all (λ (k : ℕ). nat_lt k 128) l) low in
      none_or (no_byte m (ltb-true m 128 f.0)) (no_listed l f.1)

  no_name : is_atext b ≡ false
  no_name =
      none_or (none_or
      (none_or
      (none_or
      (none_or (none_or (none_or (none_or (none_or no_letter (no_byte 33 (omega arith))) (no_range 35 39 (omega arith))) (no_byte 42 (omega arith)))
      (no_byte 43 (omega arith)))
      (no_range 45 47 (omega arith))) (no_byte 61 (omega arith))) (no_byte 63 (omega arith))) (no_range 94 96 (omega arith))) (no_range 123 126 (omega arith))

  no_email_byte : is_email_byte b ≡ false
  no_email_byte = none_or no_letter (no_listed (codes ".!#$%&'*+/=?^_`{|}~-") refl)

pub name_byte : (b : ℕ) → is_atext b ≡ is_email_byte b
name_byte b = elim (cases_lt b 128) [ inl h ↦ agree_below_at is_atext is_email_byte 128 b refl h | inr h ↦ no_name b h ∙ sym (no_email_byte b h) ]

-- ---- schemes

scheme_by : (plus dash dot letter : Bool) → (plus || dash || dot || letter) ≡ (letter || (plus || (dot || dash)))
scheme_by true dash dot true = refl
scheme_by true dash dot false = refl
scheme_by false true dot true = refl
scheme_by false true true false = refl
scheme_by false true false false = refl
scheme_by false false true true = refl
scheme_by false false true false = refl
scheme_by false false false true = refl
scheme_by false false false false = refl

pub scheme_byte : (b : ℕ) → is_scheme b ≡ is_scheme_byte b
scheme_byte b = scheme_by (b == 43) (b == 45) (b == 46) (is_ascii_alphanumeric b)

-- ---- URIs

ends_by : (low less delete : Bool) → (low || (less || delete)) ≡ not ((not low && true) && not (less || (false || delete)))
ends_by true less delete = refl
ends_by false true delete = refl
ends_by false false true = refl
ends_by false false false = refl

not_low : (c : ℕ) → nat_lt 32 c ≡ not (nat_le c 32)
not_low c = elim (cases_lt 32 c) [ inl h ↦ lt-ltb 32 c h ∙ sym (ap not (lt-leb c 32 h)) | inr h ↦ le-ltb 32 c h ∙ sym (ap not (le-leb c 32 h)) ]

uri_small : (c : ℕ) → nat_lt c 256 ≡ true → (c == 62) ≡ false → ends_url c ≡ not (is_uri_byte c)
uri_small c small other =
    ends_by (nat_le c 32) (c == 60) (c == 127)
    ∙ sym (ap (λ (b : Bool). not ((b && nat_lt c 256) && not ((c == 60) || ((c == 62) || (c == 127))))) (not_low c)
    ∙ (ap (λ (b : Bool). not ((not (nat_le c 32) && b) && not ((c == 60) || ((c == 62) || (c == 127))))) small
    ∙ ap (λ (b : Bool). not ((not (nat_le c 32) && true) && not ((c == 60) || (b || (c == 127))))) other))

eol_bare : (c : ℕ) → is_eol c ≡ true → is_uri_byte c ≡ false
eol_bare c h = elim (or_cases ((c == 10) || (c == 13)) (c == 257) h) [
  | inl l ↦ elim (or_cases (c == 10) (c == 13) l) [ inl feed ↦ ap is_uri_byte (eqb-true c 10 feed) | inr back ↦ ap is_uri_byte (eqb-true c 13 back) ]
  | inr both ↦ ap is_uri_byte (eqb-true c 257 both)
]

-- a code that is neither a column of a tab nor a line ending is a byte
small : (c : ℕ) → is_code c ≡ true → (c == 256) ≡ false → (c == 257) ≡ false → nat_lt c 256 ≡ true
small c is column both =
    let low = ltb-true c 258 is in
    let no_column = eqb-false c 256 column in
    let no_both = eqb-false c 257 both in
    lt-ltb c 256 (omega (arith, low, no_column, no_both))

by_column : (c : ℕ) (column : Bool) → (c == 256) ≡ column → is_code c ≡ true → (c == 257) ≡ false → (c == 62) ≡ false
    → ends_url (if column then 32 else c) ≡ not (is_uri_byte c)
by_column c true h is both other = sym (ap (λ (b : ℕ). not (is_uri_byte b)) (eqb-true c 256 h))
by_column c false h is both other = uri_small c (small c is h both) other

uri_by : (c : ℕ) (eol : Bool) → is_eol c ≡ eol → is_code c ≡ true → (c == 62) ≡ false → ends_url (if eol then 10 else code_byte c) ≡ not (is_uri_byte c)
uri_by c true h is other = sym (ap not (eol_bare c h))
uri_by c false h is other = by_column c (c == 256) refl is (or_parts ((c == 10) || (c == 13)) (c == 257) h).1 other

-- of the codes that are no `>` just those of a URI go on
pub uri_byte : (c : ℕ) → is_code c ≡ true → (c == 62) ≡ false → ends_url (text_byte c) ≡ not (is_uri_byte c)
uri_byte c is other = uri_by c (is_eol c) refl is other
