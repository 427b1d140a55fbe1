-- A text that is escaped gives itself back as a string.
use Rattle.std.proofs.Common.{inl, inr, ◌≡◌, ℕ, true, false, not, ◌&&◌, ◌||◌, ◌+◌, ◌<◌, List, [], ◌∷◌, ◌++◌, Option, None, Some, refl, sym, ap, ◌∙◌, subst}
use Rattle.std.proofs.Common.{drop, arith}
use Rattle.laws_escape.proofs.Prelude.{and_parts, bare, both_ways, cases_Bool, cond-false, cond-true, Constructs, eqb-true, Escape, escape_at, flat_map}
use Rattle.laws_escape.proofs.Prelude.{indent, is_ascii_punctuation, is_eol, is_white, leaf, line_end_at, LineEnd, list_all, ltb-true, nat_le, not-true}
use Rattle.laws_escape.proofs.Prelude.{or_else, or_parts, reference_at, with_backslashes, ◌==◌}
use Rattle.std.proofs.lemmas.Bool.{and_left, and_right, or_cases}
use Rattle.definition_text.specs.Content.{content_codes}
use Rattle.definition_inline.specs.Strings.{begins_with_eol, eol_bytes, spaces_at, string_bytes, string_leaf_at, string_text}
use Rattle.laws_escape.proofs.PlainText.{bare_white, bare_other}
use Rattle.definition_inline.proofs.Scanning.{string_step, string_byte}
use Rattle.laws_escape.specs.Escaped.{is_octet, has_bare_endings, StringEscapeLaw}
use Rattle.definition_block.specs.ContainerLine.{begins_with_white}
use Rattle.laws_escape.proofs.Escaped.{or_none, or_first, no_escape, no_reference, escaped_punctuation, escaped_other}

-- ---- the codes of an escaped text

-- the text after a byte
record IsBareAt (b : ℕ) (bs : List ℕ) : Type 0 where
  after_white : is_white b ≡ true → begins_with_eol bs ≡ false
  after_eol : is_eol b ≡ true → begins_with_white bs ≡ false
  later : has_bare_endings bs ≡ true

bare_at : (b : ℕ) (bs : List ℕ) → has_bare_endings (b ∷ bs) ≡ true → IsBareAt b bs
bare_at b bs h =
    let whites = is_white b && begins_with_eol bs in
    let eols = is_eol b && begins_with_white bs in
    let both = and_parts (not whites) (not eols && has_bare_endings bs) h in
    let rest = and_parts (not eols) (has_bare_endings bs) both.1 in
    record {
      after_white = λ white. sym (ap (λ x. x && begins_with_eol bs) white) ∙ not-true whites both.0;
      after_eol = λ eol. sym (ap (λ x. x && begins_with_white bs) eol) ∙ not-true eols rest.0;
      later = rest.1;
    }

plain_code : (b : ℕ) (bs : List ℕ) → (b == 13) ≡ false → content_codes (b ∷ bs) ≡ b ∷ content_codes bs
plain_code b bs apart = cond-false (b == 13) _ _ apart

no_return : (b : ℕ) → is_eol b ≡ false → (b == 13) ≡ false
no_return b none = (or_parts (b == 10) (b == 13) (or_parts ((b == 10) || (b == 13)) (b == 257) none).0).1

-- before ASCII punctuation a backslash is what comes first
punctuation_codes : (b : ℕ) (bs : List ℕ) → is_ascii_punctuation b ≡ true
    → content_codes (with_backslashes (b ∷ bs)) ≡ 92 ∷ b ∷ content_codes (with_backslashes bs)
punctuation_codes b bs on =
    let apart : (b == 13) ≡ false = elim (cases_Bool (b == 13)) [
      | inl e ↦ absurd (both_ways (is_ascii_punctuation b) (ap is_ascii_punctuation (eqb-true b 13 e)) on)
      | inr e ↦ e
    ] in
    ap content_codes (escaped_punctuation b bs on) ∙ ap (λ xs. 92 ∷ xs) (plain_code b (with_backslashes bs) apart)

other_codes : (b : ℕ) (bs : List ℕ) → is_ascii_punctuation b ≡ false → (b == 13) ≡ false
    → content_codes (with_backslashes (b ∷ bs)) ≡ b ∷ content_codes (with_backslashes bs)
other_codes b bs off apart = ap content_codes (escaped_other b bs off) ∙ plain_code b (with_backslashes bs) apart

-- no space begins with a CR
return_indent : (xs : List ℕ) → indent (content_codes (13 ∷ xs)) ≡ 0
return_indent [] = refl
return_indent (x ∷ xs) = elim (cases_Bool (x == 10)) [
  | inl e ↦ ap indent (cond-true (x == 10) (257 ∷ drop 1 (content_codes (x ∷ xs))) (13 ∷ content_codes (x ∷ xs)) e)
  | inr e ↦ ap indent (cond-false (x == 10) (257 ∷ drop 1 (content_codes (x ∷ xs))) (13 ∷ content_codes (x ∷ xs)) e)
]

no_indent : (bs : List ℕ) → begins_with_white bs ≡ false → indent (content_codes (with_backslashes bs)) ≡ 0
no_indent [] h = refl
no_indent (b ∷ bs) h = elim (cases_Bool (is_ascii_punctuation b)) [
  | inl on ↦ ap indent (punctuation_codes b bs on)
  | inr off ↦ elim (cases_Bool (b == 13)) [
    | inl e ↦ ap (λ x. indent (content_codes (with_backslashes (x ∷ bs)))) (eqb-true b 13 e) ∙ return_indent (with_backslashes bs)
    | inr e ↦ ap indent (other_codes b bs off e) ∙ cond-false (is_white b) (1 + indent (content_codes (with_backslashes bs))) 0 h
  ]
]

-- after spaces and tabs no line ending comes
goes_on : (bs : List ℕ) → begins_with_eol bs ≡ false → has_bare_endings bs ≡ true → begins_with_eol (bare (content_codes (with_backslashes bs))) ≡ false
goes_on [] h endings = refl
goes_on (b ∷ bs) h endings = elim (cases_Bool (is_ascii_punctuation b)) [
  | inl on ↦ ap (λ cs. begins_with_eol (bare cs)) (punctuation_codes b bs on)
  | inr off ↦
      let codes = ap (λ cs. begins_with_eol (bare cs)) (other_codes b bs off (no_return b h)) in
      let cs = content_codes (with_backslashes bs) in
      let at = bare_at b bs endings in
      elim (cases_Bool (is_white b)) [
        | inl white ↦ codes ∙ ap begins_with_eol (bare_white b cs white) ∙ goes_on bs (at.after_white white) at.later
        | inr apart ↦ codes ∙ ap begins_with_eol (bare_other b cs apart) ∙ h
      ]
]

-- no spaces and tabs after an LF that comes first
abbrev IsBareFeed : List ℕ → Type 0
IsBareFeed [] = Unit {0}
IsBareFeed (x ∷ xs) = x ≡ 10 → indent (content_codes xs) ≡ 0

bare_feed : (bs : List ℕ) → has_bare_endings bs ≡ true → IsBareFeed (with_backslashes bs)
bare_feed [] h = tt
bare_feed (b ∷ bs) h = elim (cases_Bool (is_ascii_punctuation b)) [
  | inl on ↦ subst IsBareFeed (sym (escaped_punctuation b bs on)) (λ e. absurd (omega arith))
  | inr off ↦ subst IsBareFeed (sym (escaped_other b bs off)) (λ e. no_indent bs ((bare_at b bs h).after_eol (ap is_eol e)))
]

-- ---- what a string begins with

module _ (on : Constructs) (names : List ℕ → Option (List ℕ)) where
  abbrev read : List ℕ → List ℕ
  read codes = string_text on names codes

  -- a line ending without spaces and tabs after it
  eol_text : (c : ℕ) (cs : List ℕ) → is_ascii_punctuation c ≡ false → is_eol c ≡ true → indent cs ≡ 0 → read (c ∷ cs) ≡ eol_bytes c ++ read cs
  eol_text c cs off eol none =
      let found : line_end_at (c ∷ cs) ≡ Some (leaf (LineEnd c ∷ []) 1) =
      cond-true (is_eol c) (Some (leaf (LineEnd c ∷ []) (1 + indent cs))) None eol ∙ ap (λ n. Some (leaf (LineEnd c ∷ []) (1 + n))) none in
      let others = or_else (line_end_at (c ∷ cs)) (spaces_at (c ∷ cs)) in
      let first : string_leaf_at on names (c ∷ cs) ≡ Some (leaf (LineEnd c ∷ []) 1) =
      ap (λ o. or_else o (or_else (reference_at on names (c ∷ cs)) others)) (no_escape on c off cs)
      ∙ ap (λ o. or_else o others) (no_reference on c off names cs) ∙ or_first (line_end_at (c ∷ cs)) (spaces_at (c ∷ cs)) (leaf (LineEnd c ∷ []) 1) found in
      ap (flat_map string_bytes) (string_step on names c cs (leaf (LineEnd c ∷ []) 1) first (omega arith))

  -- a byte that begins nothing
  byte_text : (c : ℕ) (cs : List ℕ) → is_ascii_punctuation c ≡ false → is_eol c ≡ false → spaces_at (c ∷ cs) ≡ None → read (c ∷ cs) ≡ c ∷ read cs
  byte_text c cs off apart spaces =
      let none : string_leaf_at on names (c ∷ cs) ≡ None =
      or_none (escape_at on (c ∷ cs)) _ (no_escape on c off cs)
      (or_none (reference_at on names (c ∷ cs)) _ (no_reference on c off names cs)
      (or_none (line_end_at (c ∷ cs)) _ (cond-false (is_eol c) _ _ apart) spaces)) in
      ap (flat_map string_bytes) (string_byte on names c cs none)

  escape_text : on.character_escape ≡ true → (b : ℕ) (cs : List ℕ) → is_ascii_punctuation b ≡ true → read (92 ∷ b ∷ cs) ≡ b ∷ read cs
  escape_text escapes b cs punctuation =
      let both : (on.character_escape && ((92 == 92) && is_ascii_punctuation b)) ≡ true = ap (λ x. x && is_ascii_punctuation b) escapes ∙ punctuation in
      let found : escape_at on (92 ∷ b ∷ cs) ≡ Some (leaf (Escape b ∷ []) 2) = cond-true _ _ _ both in
      let first : string_leaf_at on names (92 ∷ b ∷ cs) ≡ Some (leaf (Escape b ∷ []) 2) =
      or_first (escape_at on (92 ∷ b ∷ cs)) _ (leaf (Escape b ∷ []) 2) found in
      ap (flat_map string_bytes) (string_step on names 92 (b ∷ cs) (leaf (Escape b ∷ []) 2) first (omega arith))

  return_text : (xs : List ℕ) → indent (content_codes xs) ≡ 0 → IsBareFeed xs → read (content_codes (13 ∷ xs)) ≡ 13 ∷ read (content_codes xs)
  return_text [] none feed = eol_text 13 [] refl refl refl
  return_text (x ∷ xs) none feed = elim (cases_Bool (x == 10)) [
    | inl e ↦
        let is : x ≡ 10 = eqb-true x 10 e in
        let cs = content_codes xs in
        ap (λ y. read (content_codes (13 ∷ y ∷ xs))) is ∙ eol_text 257 cs refl refl (feed is)
        ∙ ap (λ ys. 13 ∷ ys) (sym (eol_text 10 cs refl refl (feed is))) ∙ ap (λ y. 13 ∷ read (content_codes (y ∷ xs))) (sym is)
    | inr e ↦
        ap read (cond-false (x == 10) (257 ∷ drop 1 (content_codes (x ∷ xs))) (13 ∷ content_codes (x ∷ xs)) e)
        ∙ eol_text 13 (content_codes (x ∷ xs)) refl refl none
  ]

  -- a line ending, and what follows it
  ending_text : (b : ℕ) (bs : List ℕ) → b < 256 → is_eol b ≡ true → IsBareAt b bs
      → read (content_codes (with_backslashes (b ∷ bs))) ≡ b ∷ read (content_codes (with_backslashes bs))
  ending_text b bs octet eol at = elim (or_cases ((b == 10) || (b == 13)) (b == 257) eol) [
    | inl one ↦
        let none = no_indent bs (at.after_eol eol) in
        elim (or_cases (b == 10) (b == 13) one) [
          | inl feed ↦
              let is : b ≡ 10 = eqb-true b 10 feed in
              ap (λ x. read (content_codes (with_backslashes (x ∷ bs)))) is ∙ eol_text 10 (content_codes (with_backslashes bs)) refl refl none
              ∙ ap (λ x. x ∷ read (content_codes (with_backslashes bs))) (sym is)
          | inr return ↦
              let is : b ≡ 13 = eqb-true b 13 return in
              ap (λ x. read (content_codes (with_backslashes (x ∷ bs)))) is ∙ return_text (with_backslashes bs) none (bare_feed bs at.later)
              ∙ ap (λ x. x ∷ read (content_codes (with_backslashes bs))) (sym is)
        ]
    | inr both ↦ let is : b ≡ 257 = eqb-true b 257 both in absurd (omega arith)
  ]

  -- spaces and tabs here are followed by no line ending
  no_spaces : (b : ℕ) (bs : List ℕ) → IsBareAt b bs → spaces_at (b ∷ content_codes (with_backslashes bs)) ≡ None
  no_spaces b bs at =
      let cs = content_codes (with_backslashes bs) in
      elim (cases_Bool (is_white b)) [
        | inl white ↦
            let inner = ap begins_with_eol (bare_white b cs white) ∙ goes_on bs (at.after_white white) at.later in
            cond-false _ _ _ (and_right (nat_le 1 (indent (b ∷ cs))) (begins_with_eol (bare (b ∷ cs))) inner)
        | inr apart ↦
            let none : indent (b ∷ cs) ≡ 0 = cond-false (is_white b) (1 + indent cs) 0 apart in
            cond-false _ _ _ (and_left (nat_le 1 (indent (b ∷ cs))) (begins_with_eol (bare (b ∷ cs))) (ap (nat_le 1) none))
      ]

  string_of_escaped : on.character_escape ≡ true → (bs : List ℕ) → list_all is_octet bs ≡ true → has_bare_endings bs ≡ true
      → read (content_codes (with_backslashes bs)) ≡ bs
  string_of_escaped escapes [] octets endings = refl
  string_of_escaped escapes (b ∷ bs) octets endings =
      let parts = and_parts (is_octet b) (list_all is_octet bs) octets in
      let at = bare_at b bs endings in
      let later = ap (λ ys. b ∷ ys) (string_of_escaped escapes bs parts.1 at.later) in
      elim (cases_Bool (is_ascii_punctuation b)) [
        | inl punctuation ↦ ap read (punctuation_codes b bs punctuation) ∙ escape_text escapes b (content_codes (with_backslashes bs)) punctuation ∙ later
        | inr off ↦ elim (cases_Bool (is_eol b)) [
          | inl eol ↦ ending_text b bs (ltb-true b 256 parts.0) eol at ∙ later
          | inr apart ↦
              ap read (other_codes b bs off (no_return b apart)) ∙ byte_text b (content_codes (with_backslashes bs)) off apart (no_spaces b bs at) ∙ later
        ]
      ]

pub string_escape_law : StringEscapeLaw
string_escape_law on names bs escapes octets endings = string_of_escaped on names escapes bs octets endings
