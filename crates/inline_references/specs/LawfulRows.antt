-- What rows of names hold: every name of a table has 1 to 31 letters and digits, and a text that isn't empty and is UTF-8.
use Rattle.std.proofs.Common.{◌≡◌, ℕ, ◌<◌, Bool, true, ◌&&◌, cond, eqb, leb, ltb, List, [], ◌∷◌, ◌++◌, Option, None, Some, length, refl, sym, ap, ◌∙◌, subst}
use Rattle.std.proofs.Common.{inl, inr, arith, length-append}
use Rattle.std.specs.Prelude.{nat_lt, nat_le, encode_utf8}
use Rattle.std.specs.Char.{IsScalar, is_ascii_alphanumeric, is_ascii_hexdigit}
use Rattle.std.specs.Int.{is_in_range}
use Rattle.std.specs.List.{find, filter_map, cons_option, list_all, take_while, before_first, after_first}
use Rattle.std.specs.Option.{option_map, option_and_then}
use Rattle.std.specs.Str.{IsUtf8, bytes_eq}
use Rattle.std.specs.Str.Parse.{digits_value}
use Rattle.std.proofs.lemmas.Bool.{cases_Bool, cond-true, cond-false, and_parts, or_cases, leb-true, ltb-true, lt-ltb}
use Rattle.std.proofs.lemmas.Slice.Eq.{bytes_eq-Decides}
use Rattle.std.proofs.lemmas.Str.{IsUtf8-append, IsUtf8-nil, IsUtf8-encode, length-encode, len_utf8_bounds}
use Rattle.std.proofs.Math.Utf8.{low_scalar}
use Rattle.markdown_options.specs.References.{IsReferenceName}
use Rattle.definition_text.specs.Bytes.{after_all}
use Rattle.definition_text.specs.Lines.{TextLine, lines}
use Rattle.definition_inline.specs.ReferenceRows.{Row, row, is_name, is_scalar, is_code, scalar_text, second_text, codes_text, row_of, rows, text_in}
use Rattle.definition_inline.specs.BuiltinReferences.{builtin_text, builtin_rows, builtin_names}

-- a name and a text as tables may have them
pub record IsLawful (name text : List ℕ) : Type 0 where
  pub named : IsReferenceName name
  pub nonempty : 0 < length text
  pub utf8 : IsUtf8 text

scalar_code : (code : ℕ) → is_scalar code ≡ true → IsScalar code
scalar_code code h =
    elim (or_cases (nat_lt code 0xD800) (is_in_range 0xE000 0x10FFFF code) h) [
      | inl p ↦ low_scalar code (ltb-true code 0xD800 p)
      | inr p ↦
          let parts = and_parts _ _ p in
          let low = leb-true 0xE000 code parts.0 in
          let high = leb-true code 0x10FFFF parts.1 in
          elim (cases_Bool (ltb code 55296)) [
            | inl q ↦ low_scalar code (ltb-true code 55296 q)
            | inr q ↦ cond-false (ltb code 55296) true (leb 57344 code && ltb code 1114112) q ∙ ap (λ b. b && ltb code 1114112) parts.0
                ∙ lt-ltb code 1114112 (omega arith)
          ]
    ]

-- the text of a code
record IsText (text : List ℕ) : Type 0 where
  nonempty : 0 < length text
  utf8 : IsUtf8 text

code_is_text : (digits text : List ℕ) → scalar_text digits ≡ Some text → IsText text
code_is_text digits text h =
    let code = digits_value 16 digits in
    elim (cases_Bool (is_code digits)) [
      | inl p ↦
          let known = scalar_code code (and_parts _ (is_scalar code) p).1 in
          let is : encode_utf8 code ≡ text = let e = sym (cond-true (is_code digits) (Some (encode_utf8 code)) None p) ∙ h in cc in
          let some : 0 < length (encode_utf8 code) = omega (arith, length-encode code, (len_utf8_bounds code).0) in
          record {
            nonempty = subst (λ (t : List ℕ). 0 < length t) is some;
            utf8 = subst IsUtf8 is (IsUtf8-encode code known);
          }
      | inr p ↦ let e = sym (cond-false (is_code digits) (Some (encode_utf8 code)) None p) ∙ h in cc
    ]

second_is_text : (bytes text : List ℕ) → second_text bytes ≡ Some text → IsUtf8 text
second_is_text [] text h = let is : [] ≡ text = cc in subst IsUtf8 is IsUtf8-nil
second_is_text (b ∷ bs) text h =
    elim (cases_Bool (eqb b 43)) [
      | inl p ↦ (code_is_text bs text (sym (cond-true (eqb b 43) (scalar_text bs) None p) ∙ h)).utf8
      | inr p ↦ let e = sym (cond-false (eqb b 43) (scalar_text bs) None p) ∙ h in cc
    ]

-- two parts, where the first is a text
joined_text : (first second : Option (List ℕ)) (text : List ℕ) → ((t : List ℕ) → first ≡ Some t → IsText t) → ((t : List ℕ) → second ≡ Some t → IsUtf8 t)
    → option_and_then (λ one. option_map (λ two. one ++ two) second) first ≡ Some text → IsText text
joined_text None second text f s h = cc
joined_text (Some one) None text f s h = cc
joined_text (Some one) (Some two) text f s h =
    let is : one ++ two ≡ text = cc in
    let known = f one refl in
    record {
      nonempty = subst (λ (t : List ℕ). 0 < length t) is (omega (arith, length-append one two, known.nonempty));
      utf8 = subst IsUtf8 is (IsUtf8-append one two known.utf8 (s two refl));
    }

codes_are_text : (bytes text : List ℕ) → codes_text bytes ≡ Some text → IsText text
codes_are_text bytes text h =
    joined_text (scalar_text (take_while is_ascii_hexdigit bytes)) (second_text (after_all is_ascii_hexdigit bytes)) text
    (code_is_text (take_while is_ascii_hexdigit bytes)) (second_is_text (after_all is_ascii_hexdigit bytes)) h

pub name_is_lawful : (name : List ℕ) → is_name name ≡ true → IsReferenceName name
name_is_lawful name h =
    let parts = and_parts (nat_le 1 (length name) && nat_le (length name) 31) (list_all is_ascii_alphanumeric name) h in
    let sizes = and_parts (nat_le 1 (length name)) (nat_le (length name) 31) parts.0 in
    record {
      nonempty = leb-true 1 (length name) sizes.0;
      bounded = leb-true (length name) 31 sizes.1;
      alphanumeric = parts.1;
    }

abbrev IsLawfulRow : Row → Type 0
IsLawfulRow r = IsLawful r.name r.text

-- a row that was read
row_from : (name : List ℕ) (text : Option (List ℕ)) (r : Row) → option_map (row name) text ≡ Some r → (t : List ℕ) × (text ≡ Some t) × (row name t ≡ r)
row_from name None r h = cc
row_from name (Some t) r h = (t, refl, (let is : row name t ≡ r = cc in is))

row_is_lawful : (line : List ℕ) (r : Row) → row_of line ≡ Some r → IsLawfulRow r
row_is_lawful line r h =
    let name = before_first (λ b. eqb b 61) line in
    let rest = after_first (λ b. eqb b 61) line in
    elim (cases_Bool (is_name name)) [
      | inl p ↦
          let found = row_from name (codes_text rest) r (sym (cond-true (is_name name) (option_map (row name) (codes_text rest)) None p) ∙ h) in
          let text = codes_are_text rest found.0 found.1 in
          subst IsLawfulRow found.2 (record { named = name_is_lawful name p; nonempty = text.nonempty; utf8 = text.utf8 })
      | inr p ↦ let e = sym (cond-false (is_name name) (option_map (row name) (codes_text rest)) None p) ∙ h in cc
    ]

-- a look-up in a row and others
in_first : (found : Option Row) (others : List Row) (name text : List ℕ) → ((r : Row) → found ≡ Some r → IsLawfulRow r)
    → (text_in others name ≡ Some text → IsLawful name text) → text_in (cons_option found others) name ≡ Some text → IsLawful name text
in_first None others name text first later h = later h
in_first (Some r) others name text first later h =
    let chosen : Bool → Option (List ℕ) = λ b. option_map (λ (x : Row). x.text) (cond b (Some r) (find (λ (x : Row). bytes_eq x.name name) others)) in
    elim (cases_Bool (bytes_eq r.name name)) [
      | inl p ↦
          let same : r.name ≡ name = (bytes_eq-Decides r.name name).0 p in
          let is : r.text ≡ text = let e = sym (ap chosen p) ∙ h in cc in
          subst (λ (n : List ℕ). IsLawful n text) same (subst (λ (t : List ℕ). IsLawful r.name t) is (first r refl))
      | inr p ↦ later (sym (ap chosen p) ∙ h)
    ]

in_lines : (ls : List TextLine) (name text : List ℕ) → text_in (filter_map (λ (line : TextLine). row_of line.content) ls) name ≡ Some text → IsLawful name text
in_lines [] name text h = cc
in_lines (line ∷ ls) name text h =
    in_first (row_of line.content) (filter_map (λ (l : TextLine). row_of l.content) ls) name text (row_is_lawful line.content) (in_lines ls name text) h

-- what the rows of a text hold is lawful
pub rows_are_lawful : (bytes name text : List ℕ) → text_in (rows bytes) name ≡ Some text → IsLawful name text
rows_are_lawful bytes name text h = in_lines (lines bytes) name text h

-- what is built in is lawful
pub builtin_is_lawful : (name text : List ℕ) → builtin_names name ≡ Some text → IsLawful name text
unfolding builtin_rows
builtin_is_lawful name text h = rows_are_lawful builtin_text name text h
