-- What a string stands for, part by part (CommonMark 2.4 and 2.5).
use Rattle.std.proofs.Common.{◌≡◌, ◌⊎◌, ℕ, zero, suc, ◌+◌, ◌-◌, ◌<◌, ◌≤◌, Bool, true, false, cond, ◌||◌, ◌&&◌, eqb, leb, ltb, List, [], ◌∷◌, ◌++◌}
use Rattle.std.proofs.Common.{Option, None, Some, is_some, get_or, length, length-append, take, drop, unwrap_or, inl, inr, refl, sym, ap, ap₂, subst, ◌∙◌}
use Rattle.std.proofs.Common.{arith}
use Rattle.std.proofs.Common.{append_assoc}
use Rattle.parse_strings.proofs.Prelude.{and_parts, append-nil, AreBytes, AreMarks, at_return, bare, begins_with_eol, cases_Bool, CharacterName}
use Rattle.parse_strings.proofs.Prelude.{CharacterReference, cond-false, cond-true, Constructs, content_codes, drop_at, ending_bytes, ends_line, eol_bytes}
use Rattle.parse_strings.proofs.Prelude.{eqb-false, eqb-true, Escape, escape_at, flat_map, flat_map-append, Found, indent, is_ascii_punctuation, is_eol}
use Rattle.parse_strings.proofs.Prelude.{is_ink, is_white, IsCharBoundary, IsUtf8, leaf, line_end_at, LineEnd, LineEnding, list_any, list_any-append}
use Rattle.parse_strings.proofs.Prelude.{marked_text, Names, ne_eqb, or_else, or_from, or_parts, parts_of, plain_code, prefix_len, prefix_len-le-length}
use Rattle.parse_strings.proofs.Prelude.{reference_at, reference_form, reference_leaf, reference_of, reference_text, spaces_at, string_bytes, string_leaf_at}
use Rattle.parse_strings.proofs.Prelude.{string_parts, true≢false}
use Rattle.std.specs.Char.{is_ascii_alphanumeric, is_ascii_digit, is_ascii_hexdigit}
use Rattle.std.specs.Int.{is_in_range}
use Rattle.std.proofs.lemmas.Bool.Decides.{nat_tests}
use Rattle.std.specs.Option.{MatchOption}
use Rattle.std.specs.List.{list_all}
use Rattle.std.specs.Str.{IsAscii, is_utf8}
use Rattle.std.proofs.lemmas.Bool.{cases_lt, and_left, and_right}
use Rattle.std.proofs.lemmas.Bool.{le-leb, not-true, not-false, or_left, agree_below_at, ltb-true, false_from_ne_true}
use Rattle.std.proofs.lemmas.List.{get_or_at, get_or-drop, length-drop}
use Rattle.std.proofs.lemmas.List.Sums.{prefix_len_passes, prefix_len_stops}
use Rattle.std.proofs.lemmas.Str.{IsCharBoundary-before_ascii, IsCharBoundary-end, is_utf8-from_IsUtf8, IsUtf8-from_ascii}
use Rattle.markdown_options.specs.declared.line_ending.LineEnding.TheVariants.{CarriageReturnLineFeed, CarriageReturn, LineFeed}
use Rattle.definition_text.specs.Content.{line_ending_code}
use Rattle.definition_inline.specs.CharacterReference.{reference_after}
use Rattle.definition_inline.specs.Inline.{Character, InlineLeaf}
use Rattle.definition_inline.specs.Strings.{string_text}
use Rattle.definition_inline.proofs.Scanning.{string_byte, string_step}
use Rattle.inline_references.specs.Grammar.{IsValue, IsWritten, name as by_name, digits as by_digits, lower_x, upper_x}
use Rattle.inline_references.proofs.Written.{read_is_written}
use Rattle.event_grammar.specs.Facts.{is_size}
use Rattle.event_meaning.specs.Strings.{is_told}
use Rattle.inline_leaves.specs.Leaves.{IsAfter, ReadsEnding, found_leaf, size_before}
use Rattle.inline_leaves.specs.declared.leaf.Leaf.{Leaf}
use Rattle.inline_leaves.specs.declared.line_ending.Ending.{Ending}
use Rattle.inline_leaves.proofs.Codes.{after_codes, boundary_after_byte, prefix_codes}
use Rattle.inline_leaves.proofs.Endings.{ending_is_eol}
use Rattle.inline_links.specs.Texts.{code_text}
use Rattle.inline_links.proofs.Texts.{bytes_back}
use Rattle.parse_lines.specs.InContent.{IsApart}
use Rattle.parse_strings.specs.References.{marked_decodes}
use Rattle.parse_strings.specs.Strings.{NoLeaf}
use Rattle.parse_strings.proofs.Codes.{alone_codes, begins_feed, codes_split, feed_codes, line_bytes, no_ends}

-- ---- codes that end no line

-- a code that passes a test which line endings fail
pub passes_no_eol : (test : ℕ → Bool) → test 10 ≡ false → test 13 ≡ false → test 257 ≡ false → (c : ℕ) → test c ≡ true → is_eol c ≡ false
passes_no_eol test feed return both c h =
    or_from (eqb c 10 || eqb c 13) (eqb c 257) (or_from (eqb c 10) (eqb c 13) (other 10 feed) (other 13 return)) (other 257 both)
  where
    other : (k : ℕ) → test k ≡ false → eqb c k ≡ false
    other k fails = ne_eqb c k (λ e. true≢false (sym h ∙ ap test e ∙ fails))

pub all_no_eol : (test : ℕ → Bool) → test 10 ≡ false → test 13 ≡ false → test 257 ≡ false → (cs : List ℕ) → list_all test cs ≡ true
    → list_any is_eol cs ≡ false
all_no_eol test feed return both [] h = refl
all_no_eol test feed return both (c ∷ cs) h =
    let are = and_parts (test c) (list_all test cs) h in
    or_from (is_eol c) (list_any is_eol cs) (passes_no_eol test feed return both c are.0) (all_no_eol test feed return both cs are.1)

-- ---- what comes first

module _ (on : Constructs) (names : Names) where
  leaf_text : (cs : List ℕ) (found : Found) → string_leaf_at on names cs ≡ Some found → 0 < found.size → 0 < length cs
      → string_text on names cs ≡ flat_map string_bytes found.parts ++ string_text on names (drop found.size cs)
  leaf_text [] found is filled some = absurd (omega arith)
  leaf_text (c ∷ cs) found is filled some =
      ap (flat_map string_bytes) (string_step on names c cs found is filled)
      ∙ flat_map-append string_bytes found.parts (string_parts on names 0 (drop found.size (c ∷ cs)))

  pub no_escape : (c : ℕ) (cs : List ℕ) → eqb c 92 ≡ false → escape_at on (c ∷ cs) ≡ None
  no_escape c [] h = refl
  no_escape c (d ∷ ds) h = cond-false _ _ _ (and_right on.character_escape _ (and_left (eqb c 92) (is_ascii_punctuation d) h))

  pub no_reference : (c : ℕ) (cs : List ℕ) → eqb c 38 ≡ false → reference_at on names (c ∷ cs) ≡ None
  no_reference c cs h =
      ap (λ f. cond on.character_reference (reference_of names (c ∷ cs) f) None) (cond-false (eqb c 38) (reference_after cs) None h)
      ∙ by_case on.character_reference
    where
      by_case : (t : Bool) → cond {A = Option Found} t None None ≡ None
      by_case true = refl
      by_case false = refl

  -- ---- an escape

  pub record EscapeCodes (cs : List ℕ) : Type 0 where
    pub byte : ℕ
    pub others : List ℕ
    pub whole : cs ≡ 92 ∷ byte ∷ others
    pub mark : is_ascii_punctuation byte ≡ true
    pub is_on : on.character_escape ≡ true
    pub text : string_text on names cs ≡ byte ∷ string_text on names others

  pub escape_codes : (cs : List ℕ) (found : Found) → escape_at on cs ≡ Some found → EscapeCodes cs
  escape_codes [] found h = cc
  escape_codes (c ∷ []) found h = cc
  escape_codes (c ∷ next ∷ cs) found h =
      let mark = eqb c 92 && is_ascii_punctuation next in
      let test = on.character_escape && mark in
      elim (cases_Bool test) [
        | inl does ↦
            let both = and_parts on.character_escape mark does in
            let are = and_parts (eqb c 92) (is_ascii_punctuation next) both.1 in
            let is = cond-true test (Some (leaf (Escape next ∷ []) 2)) None does in
            record {
              byte = next;
              others = cs;
              whole = ap (λ x. x ∷ next ∷ cs) (eqb-true c 92 are.0);
              mark = are.1;
              is_on = both.0;
              text = leaf_text (c ∷ next ∷ cs) (leaf (Escape next ∷ []) 2) (ap (λ o. or_else o (or_else (reference_at on names (c ∷ next ∷ cs)) (or_else
                  (line_end_at (c ∷ next ∷ cs)) (spaces_at (c ∷ next ∷ cs))))) is) (omega arith) (omega arith);
            }
        | inr fails ↦ let e = sym (cond-false test (Some (leaf (Escape next ∷ []) 2)) None fails) ∙ h in cc
      ]

  -- ---- a reference

  pub record ReferenceCodes (cs : List ℕ) (found : Found) : Type 0 where
    pub front : List ℕ
    pub others : List ℕ
    pub name : CharacterName
    pub whole : cs ≡ front ++ others
    pub written : IsWritten front name
    pub size : found.size ≡ length front
    pub known : is_some (reference_text names name) ≡ true
    pub is_on : on.character_reference ≡ true
    pub text : string_text on names cs ≡ unwrap_or (reference_text names name) [] ++ string_text on names others

  written_first : (front : List ℕ) (name : CharacterName) → IsWritten front name → (more : List ℕ) × (front ≡ 38 ∷ more)
  written_first front _ (by_name value h) = (value ++ 59 ∷ [], refl)
  written_first front _ (by_digits value h) = (35 ∷ value ++ 59 ∷ [], refl)
  written_first front _ (lower_x value h) = (35 ∷ 120 ∷ value ++ 59 ∷ [], refl)
  written_first front _ (upper_x value h) = (35 ∷ 88 ∷ value ++ 59 ∷ [], refl)

  pub reference_codes : (cs : List ℕ) (found : Found) → reference_at on names cs ≡ Some found → ReferenceCodes cs found
  reference_codes cs found all = elim (cases_Bool on.character_reference) [
    | inl does ↦ by_form does (reference_form cs) refl (sym (cond-true on.character_reference (reference_of names cs (reference_form cs)) None does) ∙ all)
    | inr fails ↦ let e = sym (cond-false on.character_reference (reference_of names cs (reference_form cs)) None fails) ∙ all in cc
  ]
    where
      by_text : on.character_reference ≡ true → (r : CharacterReference) (t : Option (List ℕ)) → reference_form cs ≡ Some r → reference_text names r.name ≡ t
          → reference_leaf (length cs - length r.rest) t ≡ Some found → ReferenceCodes cs found
      by_text is_on r None is known h = cc
      by_text is_on r (Some t) is known h =
          let w = read_is_written cs r is in
          let first = written_first w.0 r.name w.1 in
          let made : leaf (Character t ∷ []) (length cs - length r.rest) ≡ found = cc in
          let sizes : length cs ≡ length w.0 + length r.rest = ap length w.2 ∙ length-append w.0 r.rest in
          let size : length cs - length r.rest ≡ length w.0 = omega arith in
          let some : 0 < length w.0 = subst (λ xs. 0 < length xs) (sym first.1) (omega arith) in
          let found_size : found.size ≡ length w.0 = ap (λ (f : Found). f.size) (sym made) ∙ size in
          let begins : cs ≡ 38 ∷ (first.0 ++ r.rest) = w.2 ∙ ap (λ xs. xs ++ r.rest) first.1 in
          let other : escape_at on cs ≡ None = ap (escape_at on) begins ∙ no_escape 38 (first.0 ++ r.rest) refl in
          let here : string_leaf_at on names cs ≡ Some found = ap₂ (λ a b. or_else a (or_else b (or_else (line_end_at cs) (spaces_at cs)))) other all in
          let left : drop found.size cs ≡ r.rest = ap₂ drop found_size w.2 ∙ drop_at w.0 r.rest (length w.0) refl in
          record {
            front = w.0;
            others = r.rest;
            name = r.name;
            whole = w.2;
            written = w.1;
            size = found_size;
            known = ap is_some known;
            is_on = is_on;
            text =
                leaf_text cs found here (omega (arith, found_size, some)) (omega (arith, sizes, some))
                ∙ ap₂ (λ xs ys. xs ++ string_text on names ys)
                (ap (λ (f : Found). flat_map string_bytes f.parts) (sym made) ∙ append-nil t ∙ ap (λ o. unwrap_or o []) (sym known)) left;
          }

      by_form : on.character_reference ≡ true → (o : Option CharacterReference) → reference_form cs ≡ o → reference_of names cs o ≡ Some found → ReferenceCodes cs found
      by_form is_on None is h = cc
      by_form is_on (Some r) is h = by_text is_on r (reference_text names r.name) is refl h

  -- ---- a line ending, and white space before it

  eol_is : (k : ℕ) → is_eol k ≡ false → (c : ℕ) → is_eol c ≡ true → eqb c k ≡ false
  eol_is k not_eol c h = false_from_ne_true (eqb c k) (λ e. true≢false (sym h ∙ ap is_eol (eqb-true c k e) ∙ not_eol))

  pub ending_text : (c : ℕ) (cs : List ℕ) → is_eol c ≡ true → string_text on names (c ∷ cs) ≡ eol_bytes c ++ string_text on names (drop (indent cs) cs)
  ending_text c cs h =
      let found = leaf (LineEnd c ∷ []) (1 + indent cs) in
      let next : 1 + indent cs ≡ suc (indent cs) = omega arith in
      let is : line_end_at (c ∷ cs) ≡ Some found = cond-true (is_eol c) (Some found) None h in
      let here : string_leaf_at on names (c ∷ cs) ≡ Some found =
      ap₂ (λ a b. or_else a (or_else b (or_else (line_end_at (c ∷ cs)) (spaces_at (c ∷ cs))))) (no_escape c cs (eol_is 92 refl c h))
      (no_reference c cs (eol_is 38 refl c h))
      ∙ ap (λ o. or_else o (spaces_at (c ∷ cs))) is in
      leaf_text (c ∷ cs) found here (omega arith) (omega arith)
      ∙ ap₂ (λ xs n. xs ++ string_text on names (drop n (c ∷ cs))) (append-nil (eol_bytes c)) next

  white_is : (k : ℕ) → is_white k ≡ false → (c : ℕ) → is_white c ≡ true → eqb c k ≡ false
  white_is k not_white c h = false_from_ne_true (eqb c k) (λ e. true≢false (sym h ∙ ap is_white (eqb-true c k e) ∙ not_white))

  white_no_eol : (c : ℕ) → is_white c ≡ true → is_eol c ≡ false
  white_no_eol c h = passes_no_eol is_white refl refl refl c h

  pub spaces_text : (cs : List ℕ) → 0 < indent cs → begins_with_eol (bare cs) ≡ true → string_text on names cs ≡ string_text on names (bare cs)
  spaces_text [] some ends = absurd (omega arith)
  spaces_text (c ∷ cs) some ends = elim (cases_Bool (is_white c)) [
    | inl w ↦
        let found = leaf [] (indent (c ∷ cs)) in
        let test : (leb 1 (indent (c ∷ cs)) && begins_with_eol (bare (c ∷ cs))) ≡ true =
        ap₂ (λ a b. a && b) (le-leb 1 (indent (c ∷ cs)) (omega arith)) ends in
        let is : spaces_at (c ∷ cs) ≡ Some found = cond-true (leb 1 (indent (c ∷ cs)) && begins_with_eol (bare (c ∷ cs))) (Some found) None test in
        let here : string_leaf_at on names (c ∷ cs) ≡ Some found =
        ap₂ (λ a b. or_else a (or_else b (or_else (line_end_at (c ∷ cs)) (spaces_at (c ∷ cs))))) (no_escape c cs (white_is 92 refl c w))
        (no_reference c cs (white_is 38 refl c w))
        ∙ ap₂ (λ a b. or_else a b) (cond-false (is_eol c) _ _ (white_no_eol c w)) is in
        leaf_text (c ∷ cs) found here some (omega arith)
    | inr fails ↦ let none : indent (c ∷ cs) ≡ 0 = cond-false (is_white c) (1 + indent cs) 0 fails in absurd (omega arith)
  ]

  -- ---- bytes that stand for themselves

  no_line_end : (cs : List ℕ) → begins_with_eol cs ≡ false → line_end_at cs ≡ None
  no_line_end [] h = refl
  no_line_end (c ∷ cs) h = cond-false (is_eol c) _ _ h

  no_leaf_at : (cs : List ℕ) → NoLeaf on names cs → string_leaf_at on names cs ≡ None
  no_leaf_at cs h =
      ap₂ (λ a b. or_else a (or_else b (or_else (line_end_at cs) (spaces_at cs)))) h.escape h.reference
      ∙ ap₂ (λ a b. or_else a b) (no_line_end cs h.ending) (cond-false (leb 1 (indent cs) && begins_with_eol (bare cs)) _ _ h.spaces)

  text_byte : (c : ℕ) (cs : List ℕ) → string_leaf_at on names (c ∷ cs) ≡ None → string_text on names (c ∷ cs) ≡ c ∷ string_text on names cs
  text_byte c cs none = ap (flat_map string_bytes) (string_byte on names c cs none)

  -- a byte in which nothing begins
  untold_leaf : (c : ℕ) (cs : List ℕ) → is_told c ≡ false → string_leaf_at on names (c ∷ cs) ≡ None
  untold_leaf c cs h =
      let white = or_parts (is_white c) (is_eol c || (eqb c 38 || eqb c 92)) h in
      let eol = or_parts (is_eol c) (eqb c 38 || eqb c 92) white.1 in
      let marks = or_parts (eqb c 38) (eqb c 92) eol.1 in
      let none : indent (c ∷ cs) ≡ 0 = cond-false (is_white c) (1 + indent cs) 0 white.0 in
      no_leaf_at (c ∷ cs) (record {
        escape = no_escape c cs marks.1;
        reference = no_reference c cs marks.0;
        ending = eol.0;
        spaces = ap (λ n. leb 1 n && begins_with_eol (drop n (c ∷ cs))) none;
      })

-- ---- in bytes

untold_return : (b : ℕ) → is_told b ≡ false → b ≡ 13 → ⊥
untold_return b h e = true≢false (sym (ap is_told e) ∙ h)

untold_dark : (b : ℕ) → is_told b ≡ false → ends_line b ≡ false
untold_dark b h =
    let white = or_parts (is_white b) (is_eol b || (eqb b 38 || eqb b 92)) h in
    (or_parts (ends_line b) (eqb b 257) (or_parts (is_eol b) (eqb b 38 || eqb b 92) white.1).0).0

-- bytes in which nothing begins
record InkRun (on : Constructs) (names : Names) (n : ℕ) (xs : List ℕ) : Type 0 where
  text : string_text on names (content_codes xs) ≡ take n xs ++ string_text on names (content_codes (drop n xs))
  dark : list_any ends_line (take n xs) ≡ false

ink_run : (on : Constructs) (names : Names) (n : ℕ) (xs : List ℕ) → n ≤ prefix_len is_ink xs → InkRun on names n xs
ink_run on names zero xs le = record { text = refl; dark = refl }
ink_run on names (suc n) [] le = record { text = refl; dark = refl }
ink_run on names (suc n) (x ∷ xs) le = elim (cases_Bool (is_ink x)) [
  | inl h ↦
      let untold : is_told x ≡ false = not-true _ h in
      let more : prefix_len is_ink (x ∷ xs) ≡ 1 + prefix_len is_ink xs = cond-true (is_ink x) _ _ h in
      let later = ink_run on names n xs (omega arith) in
      record {
        text =
            ap (string_text on names) (plain_code x xs (untold_return x untold))
            ∙ text_byte on names x (content_codes xs) (untold_leaf on names x (content_codes xs) untold)
            ∙ ap (λ s. x ∷ s) later.text;
        dark = or_from (ends_line x) (list_any ends_line (take n xs)) (untold_dark x untold) later.dark;
      }
  | inr h ↦ let none : prefix_len is_ink (x ∷ xs) ≡ 0 = cond-false (is_ink x) _ _ h in absurd (omega arith)
]

-- the first byte, where nothing begins, and those after it in which nothing begins
pub record DataStep (on : Constructs) (names : Names) (xs : List ℕ) (n : ℕ) : Type 0 where
  pub within : n ≤ length xs
  pub text : string_text on names (content_codes xs) ≡ take n xs ++ string_text on names (content_codes (drop n xs))
  pub dark : list_any ends_line (take n xs) ≡ false
  pub cut : IsUtf8 xs → IsCharBoundary xs n

-- a byte in which something may begin is in ASCII
pub told_ascii : (b : ℕ) → b < 256 → is_told b ≡ true → b < 128
told_ascii b byte h =
    let small : (is_told b && ltb b 128) ≡ is_told b = agree_below_at (λ c. is_told c && ltb c 128) is_told 256 b refl byte in
    ltb-true b 128 (and_parts (is_told b) (ltb b 128) (small ∙ h)).1

first_dark : (x : ℕ) (xs : List ℕ) → begins_with_eol (content_codes (x ∷ xs)) ≡ false → (x ≡ 13 → ⊥) × (ends_line x ≡ false)
first_dark x xs h = elim (cases_Bool (eqb x 13)) [
  | inl e ↦
      let is : begins_with_eol (content_codes (13 ∷ xs)) ≡ true = at_return begins_with_eol true xs (λ cs. refl) (λ cs. refl) in
      absurd (true≢false (sym is ∙ ap (λ y. begins_with_eol (content_codes (y ∷ xs))) (sym (eqb-true x 13 e)) ∙ h))
  | inr e ↦
      let plain = plain_code x xs (eqb-false x 13 e) in
      (eqb-false x 13 e, (or_parts (ends_line x) (eqb x 257) (ap begins_with_eol (sym plain) ∙ h)).0)
]

ink_boundary : (xs : List ℕ) (n : ℕ) → AreBytes xs → 0 < length xs → n ≡ 1 + prefix_len is_ink (drop 1 xs) → IsCharBoundary xs n
ink_boundary xs n bytes some e = elim (cases_lt n (length xs)) [
  | inl lt ↦
      let rest = drop 1 xs in
      let m = prefix_len is_ink rest in
      let stops = prefix_len_stops is_ink rest 0 (omega (arith, lt, e, length-drop 1 xs)) in
      let place : get_or rest m 0 ≡ get_or xs n 0 = get_or-drop 1 xs m 0 ∙ ap (λ k. get_or xs k 0) (sym e) in
      IsCharBoundary-before_ascii xs n lt (told_ascii (get_or xs n 0) (bytes n) (not-false _ (ap is_ink (sym place) ∙ stops)))
  | inr ge ↦
      let whole : length xs ≡ n = omega (arith, ge, e, length-drop 1 xs, prefix_len-le-length is_ink (drop 1 xs)) in
      subst (IsCharBoundary xs) whole (IsCharBoundary-end xs)
]

pub data_step : (on : Constructs) (names : Names) (xs : List ℕ) (n : ℕ) → AreBytes xs → 0 < length xs → NoLeaf on names (content_codes xs)
    → n ≡ 1 + prefix_len is_ink (drop 1 xs) → DataStep on names xs n
data_step on names [] n bytes some none e = absurd (omega arith)
data_step on names (x ∷ xs) n bytes some none e =
    let first = first_dark x xs none.ending in
    let plain = plain_code x xs first.0 in
    let m = prefix_len is_ink xs in
    let next : suc m ≡ n = omega arith in
    let run = ink_run on names m xs (omega arith) in
    let text : string_text on names (content_codes (x ∷ xs)) ≡ take (suc m) (x ∷ xs) ++ string_text on names (content_codes (drop (suc m) (x ∷ xs))) =
    ap (string_text on names) plain
    ∙ text_byte on names x (content_codes xs) (ap (string_leaf_at on names) (sym plain) ∙ no_leaf_at on names (content_codes (x ∷ xs)) none)
    ∙ ap (λ s. x ∷ s) run.text in
    let dark : list_any ends_line (take (suc m) (x ∷ xs)) ≡ false = or_from (ends_line x) (list_any ends_line (take m xs)) first.1 run.dark in
    record {
      within = omega (arith, next, prefix_len-le-length is_ink xs);
      text =
          subst (λ k. string_text on names (content_codes (x ∷ xs)) ≡ take k (x ∷ xs) ++ string_text on names (content_codes (drop k (x ∷ xs)))) next text;
      dark = subst (λ k. list_any ends_line (take k (x ∷ xs)) ≡ false) next dark;
      cut = λ utf8. ink_boundary (x ∷ xs) n bytes some e;
    }

-- bytes with the same codes are the same
pub same_codes : (xs ys : List ℕ) → AreBytes xs → AreBytes ys → content_codes xs ≡ content_codes ys → xs ≡ ys
same_codes xs ys first second e = sym (bytes_back xs first) ∙ ap (flat_map code_text) e ∙ bytes_back ys second

-- no line ends with punctuation
pub mark_dark : (b : ℕ) → is_ascii_punctuation b ≡ true → ends_line b ≡ false
mark_dark b mark = (or_parts (ends_line b) (eqb b 257) (passes_no_eol is_ascii_punctuation refl refl refl b mark)).0

-- an escape in bytes
pub record EscapeStep (on : Constructs) (names : Names) (xs : List ℕ) : Type 0 where
  pub byte : ℕ
  pub after : List ℕ
  pub whole : xs ≡ 92 ∷ byte ∷ after
  pub mark : is_ascii_punctuation byte ≡ true
  pub is_on : on.character_escape ≡ true
  pub text : string_text on names (content_codes xs) ≡ byte ∷ string_text on names (content_codes after)
  pub cut : IsUtf8 xs → IsCharBoundary xs 2

mark_ascii : (b : ℕ) → b < 256 → is_ascii_punctuation b ≡ true → b < 128
mark_ascii b byte h =
    let small : (is_ascii_punctuation b && ltb b 128) ≡ is_ascii_punctuation b =
    agree_below_at (λ c. is_ascii_punctuation c && ltb c 128) is_ascii_punctuation 256 b refl byte in
    ltb-true b 128 (and_parts (is_ascii_punctuation b) (ltb b 128) (small ∙ h)).1

pub escape_step : (on : Constructs) (names : Names) (xs : List ℕ) (found : Found) → AreBytes xs → escape_at on (content_codes xs) ≡ Some found
    → EscapeStep on names xs
escape_step on names xs found bytes h =
    let is = escape_codes on names (content_codes xs) found h in
    let split = codes_split (92 ∷ is.byte ∷ []) is.others xs is.whole in
    let no_eol : is_eol is.byte ≡ false = passes_no_eol is_ascii_punctuation refl refl refl is.byte is.mark in
    let dark : list_any is_eol (content_codes split.front) ≡ false =
    ap (list_any is_eol) split.first ∙ or_from (is_eol is.byte) false no_eol refl in
    let front : split.front ≡ 92 ∷ is.byte ∷ [] = sym (line_bytes split.front dark) ∙ split.first in
    let whole : xs ≡ 92 ∷ is.byte ∷ split.after = split.parts ∙ ap (λ ys. ys ++ split.after) front in
    let second : get_or xs 1 0 ≡ is.byte = ap (λ ys. get_or ys 1 0) whole in
    record {
      byte = is.byte;
      after = split.after;
      whole = whole;
      mark = is.mark;
      is_on = is.is_on;
      text = is.text ∙ ap (λ cs. is.byte ∷ string_text on names cs) (sym split.last);
      cut = λ utf8. boundary_after_byte xs 2 utf8 (omega arith) (omega (arith, ap length whole))
          (mark_ascii (get_or xs 1 0) (bytes 1) (ap is_ascii_punctuation second ∙ is.mark));
    }

-- a reference in bytes
pub record ReferenceStep (on : Constructs) (names : Names) (xs rest : List ℕ) : Type 0 where
  pub marks : List ℕ
  pub first : ℕ
  pub more : List ℕ
  pub whole : xs ≡ (38 ∷ (marks ++ ((first ∷ more) ++ 59 ∷ []))) ++ rest
  pub are : AreMarks marks first
  pub most : length (first ∷ more) ≤ 31
  pub all : list_all is_ascii_alphanumeric (first ∷ more) ≡ true
  pub dark : list_any ends_line (38 ∷ (marks ++ ((first ∷ more) ++ 59 ∷ []))) ≡ false
  pub decodes : marked_decodes names marks (first ∷ more) ≡ true
  pub is_on : on.character_reference ≡ true
  pub text : string_text on names (content_codes xs) ≡ marked_text names marks (first ∷ more) ++ string_text on names (content_codes rest)
  -- the bytes after the first mark
  pub tail : xs ≡ 38 ∷ (marks ++ first ∷ (more ++ 59 ∷ rest))
  pub cut : (n : ℕ) → n ≡ length (38 ∷ (marks ++ ((first ∷ more) ++ 59 ∷ []))) → IsUtf8 xs → IsCharBoundary xs n

-- how a reference is written: its marks and its value
pub record IsMarked (names : Names) (front : List ℕ) (name : CharacterName) : Type 0 where
  pub marks : List ℕ
  pub first : ℕ
  pub more : List ℕ
  pub whole : front ≡ 38 ∷ (marks ++ ((first ∷ more) ++ 59 ∷ []))
  pub are : AreMarks marks first
  pub most : length (first ∷ more) ≤ 31
  pub all : list_all is_ascii_alphanumeric (first ∷ more) ≡ true
  pub dark : list_any is_eol front ≡ false
  pub text : unwrap_or (reference_text names name) [] ≡ marked_text names marks (first ∷ more)
  pub decodes : is_some (reference_text names name) ≡ true → marked_decodes names marks (first ∷ more) ≡ true

value_dark : (test : ℕ → Bool) → test 10 ≡ false → test 13 ≡ false → test 257 ≡ false → (value : List ℕ) → list_all test value ≡ true
    → list_any is_eol (value ++ 59 ∷ []) ≡ false
value_dark test feed return both value h =
    list_any-append is_eol value (59 ∷ []) ∙ or_from (list_any is_eol value) false (all_no_eol test feed return both value h) refl

-- what all pass, all pass another test that is weaker
all_weaker : (test weaker : ℕ → Bool) → ((c : ℕ) → test c ≡ true → weaker c ≡ true) → (xs : List ℕ) → list_all test xs ≡ true → list_all weaker xs ≡ true
all_weaker test weaker h [] all = refl
all_weaker test weaker h (x ∷ xs) all =
    let are = and_parts (test x) (list_all test xs) all in
    ap₂ (λ (s t : Bool). s && t) (h x are.0) (all_weaker test weaker h xs are.1)

digit_alphanumeric : (c : ℕ) → is_ascii_digit c ≡ true → is_ascii_alphanumeric c ≡ true
digit_alphanumeric c is = ap (λ (s : Bool). (s || is_in_range 65 90 c) || is_in_range 97 122 c) is

hexdigit_alphanumeric : (c : ℕ) → is_ascii_hexdigit c ≡ true → is_ascii_alphanumeric c ≡ true
hexdigit_alphanumeric c is = grind (arith, nat_tests, is)

alphanumeric_ascii : (c : ℕ) → is_ascii_alphanumeric c ≡ true → ltb c 128 ≡ true
alphanumeric_ascii c is = grind (arith, nat_tests, is)

fails_at : (test : ℕ → Bool) (k b : ℕ) → test k ≡ false → test b ≡ true → eqb b k ≡ false
fails_at test k b fails is = ne_eqb b k (λ e. true≢false (sym is ∙ ap test e ∙ fails))

-- letters and digits are in ASCII
letters_ascii : (xs : List ℕ) → list_all is_ascii_alphanumeric xs ≡ true → IsAscii xs
letters_ascii [] all i = omega arith
letters_ascii (x ∷ xs) all zero =
    let is = (and_parts (is_ascii_alphanumeric x) (list_all is_ascii_alphanumeric xs) all).0 in
    ltb-true x 128 (alphanumeric_ascii x is)
letters_ascii (x ∷ xs) all (suc i) = letters_ascii xs (and_parts (is_ascii_alphanumeric x) (list_all is_ascii_alphanumeric xs) all).1 i

letters_text : (xs : List ℕ) → list_all is_ascii_alphanumeric xs ≡ true → is_utf8 xs ≡ true
letters_text xs all = is_utf8-from_IsUtf8 xs (IsUtf8-from_ascii xs (letters_ascii xs all))

-- so many bytes, all of a kind
value_is : (test : ℕ → Bool) (most : ℕ) (value : List ℕ) → IsValue test most value → (is_size most value && list_all test value) ≡ true
value_is test most value h =
    ap₂ (λ (s t : Bool). s && t)
    (ap₂ (λ (s t : Bool). s && t) (le-leb 1 (length value) h.nonempty) (le-leb (length value) most h.bounded)) h.bytes

pub marked : (names : Names) (front : List ℕ) (name : CharacterName) → IsWritten front name → IsMarked names front name
marked names front _ (by_name [] h) = absurd (omega (arith, h.nonempty))
marked names front _ (by_name (x ∷ xs) h) = record {
  marks = [];
  first = x;
  more = xs;
  whole = refl;
  are = fails_at is_ascii_alphanumeric 35 x refl (and_parts (is_ascii_alphanumeric x) (list_all is_ascii_alphanumeric xs) h.bytes).0;
  most = h.bounded;
  all = h.bytes;
  dark = value_dark is_ascii_alphanumeric refl refl refl (x ∷ xs) h.bytes;
  text = refl;
  decodes = λ known. ap₂ (λ (s t : Bool). s && t) (letters_text (x ∷ xs) h.bytes) known;
}
marked names front _ (by_digits [] h) = absurd (omega (arith, h.nonempty))
marked names front _ (by_digits (x ∷ xs) h) =
    let is = (and_parts (is_ascii_digit x) (list_all is_ascii_digit xs) h.bytes).0 in
    record {
      marks = 35 ∷ [];
      first = x;
      more = xs;
      whole = refl;
      are = (refl, or_from (eqb x 120) (eqb x 88) (fails_at is_ascii_digit 120 x refl is) (fails_at is_ascii_digit 88 x refl is));
      most = omega (arith, h.bounded);
      all = all_weaker is_ascii_digit is_ascii_alphanumeric digit_alphanumeric (x ∷ xs) h.bytes;
      dark = value_dark is_ascii_digit refl refl refl (x ∷ xs) h.bytes;
      text = refl;
      decodes = λ known. value_is is_ascii_digit 7 (x ∷ xs) h;
    }
marked names front _ (lower_x [] h) = absurd (omega (arith, h.nonempty))
marked names front _ (lower_x (x ∷ xs) h) = record {
  marks = 35 ∷ 120 ∷ [];
  first = x;
  more = xs;
  whole = refl;
  are = (refl, refl);
  most = omega (arith, h.bounded);
  all = all_weaker is_ascii_hexdigit is_ascii_alphanumeric hexdigit_alphanumeric (x ∷ xs) h.bytes;
  dark = value_dark is_ascii_hexdigit refl refl refl (x ∷ xs) h.bytes;
  text = refl;
  decodes = λ known. value_is is_ascii_hexdigit 6 (x ∷ xs) h;
}
marked names front _ (upper_x [] h) = absurd (omega (arith, h.nonempty))
marked names front _ (upper_x (x ∷ xs) h) = record {
  marks = 35 ∷ 88 ∷ [];
  first = x;
  more = xs;
  whole = refl;
  are = (refl, refl);
  most = omega (arith, h.bounded);
  all = all_weaker is_ascii_hexdigit is_ascii_alphanumeric hexdigit_alphanumeric (x ∷ xs) h.bytes;
  dark = value_dark is_ascii_hexdigit refl refl refl (x ∷ xs) h.bytes;
  text = refl;
  decodes = λ known. value_is is_ascii_hexdigit 6 (x ∷ xs) h;
}

pub bytes_after : (front after xs : List ℕ) → xs ≡ front ++ after → AreBytes xs → AreBytes after
bytes_after front after xs e bytes k =
    subst (λ ys. get_or ys k 0 < 256) (ap (drop (length front)) e ∙ drop_at front after (length front) refl)
    (subst (λ b. b < 256) (sym (get_or-drop (length front) xs k 0)) (bytes (length front + k)))

-- a place after a byte in ASCII
pub cut_last : (xs before after : List ℕ) (b n : ℕ) → xs ≡ (before ++ b ∷ []) ++ after → b < 128 → n ≡ length (before ++ b ∷ []) → IsUtf8 xs
    → IsCharBoundary xs n
cut_last xs before after b n whole ascii is utf8 =
    let parts : xs ≡ before ++ b ∷ after = whole ∙ append_assoc before (b ∷ []) after in
    let size : n ≡ length before + 1 = is ∙ length-append before (b ∷ []) in
    let place : n - 1 ≡ length before = omega arith in
    let last : get_or xs (n - 1) 0 ≡ b = ap₂ (λ ys k. get_or ys k 0) parts place ∙ get_or_at before b after 0 (length before) refl in
    boundary_after_byte xs n utf8 (omega arith) (omega (arith, size, ap length parts, length-append before (b ∷ after))) (subst (λ c. c < 128) (sym last) ascii)

pub reference_step : (on : Constructs) (names : Names) (xs rest : List ℕ) (parts : List InlineLeaf) → AreBytes xs → AreBytes rest → IsAfter xs rest
    → Some (leaf parts (size_before xs rest)) ≡ reference_at on names (content_codes xs) → ReferenceStep on names xs rest
reference_step on names xs rest parts bytes rest_bytes after h =
    let cs = content_codes xs in
    let is = reference_codes on names cs (leaf parts (size_before xs rest)) (sym h) in
    let m = marked names is.front is.name is.written in
    let split = codes_split is.front is.others xs is.whole in
    let front : split.front ≡ is.front = sym (line_bytes split.front (ap (list_any is_eol) split.first ∙ m.dark)) ∙ split.first in
    let left : content_codes rest ≡ is.others = after.codes ∙ ap₂ drop is.size is.whole ∙ drop_at is.front is.others (length is.front) refl in
    let same : split.after ≡ rest =
    same_codes split.after rest (bytes_after split.front split.after xs split.parts bytes) rest_bytes (split.last ∙ sym left) in
    let value = m.first ∷ m.more in
    let whole : xs ≡ (38 ∷ (m.marks ++ (value ++ 59 ∷ []))) ++ rest = split.parts ∙ ap₂ (λ ys zs. ys ++ zs) (front ∙ m.whole) same in
    record {
      marks = m.marks;
      first = m.first;
      more = m.more;
      whole = whole;
      is_on = is.is_on;
      tail =
          whole ∙ ap (λ ys. 38 ∷ ys) (append_assoc m.marks (value ++ 59 ∷ []) rest)
          ∙ ap (λ ys. 38 ∷ (m.marks ++ m.first ∷ ys)) (append_assoc m.more (59 ∷ []) rest);
      cut = λ n is.
          let last : 38 ∷ (m.marks ++ (value ++ 59 ∷ [])) ≡ (38 ∷ (m.marks ++ value)) ++ 59 ∷ [] =
          ap (λ ys. 38 ∷ ys) (sym (append_assoc m.marks value (59 ∷ []))) in
          cut_last xs (38 ∷ (m.marks ++ value)) rest 59 n (whole ∙ ap (λ ys. ys ++ rest) last) (omega arith) (is ∙ ap length last);
      are = m.are;
      most = m.most;
      all = m.all;
      decodes = m.decodes is.known;
      dark = no_ends (38 ∷ (m.marks ++ (value ++ 59 ∷ []))) (ap (list_any is_eol) (sym m.whole) ∙ m.dark);
      text = is.text ∙ ap₂ (λ ys zs. ys ++ string_text on names zs) m.text (sym left);
    }

-- ---- line endings and white space in bytes

code_is : (e : LineEnding) → code_text (line_ending_code e) ≡ ending_bytes e
code_is LineFeed = refl
code_is CarriageReturn = refl
code_is CarriageReturnLineFeed = refl

eol_is_ending : (e : LineEnding) → eol_bytes (line_ending_code e) ≡ ending_bytes e
eol_is_ending LineFeed = refl
eol_is_ending CarriageReturn = refl
eol_is_ending CarriageReturnLineFeed = refl

-- the last of some white bytes is in ASCII
pub white_last : (xs : List ℕ) (n : ℕ) → AreBytes xs → 0 < n → n ≤ indent xs → get_or xs (n - 1) 0 < 128
white_last xs n bytes some le =
    told_ascii (get_or xs (n - 1) 0) (bytes (n - 1)) (or_left (is_white (get_or xs (n - 1) 0)) _ (prefix_len_passes is_white xs (n - 1) 0 (omega arith)))

pub white_dark : (n : ℕ) (xs : List ℕ) → n ≤ indent xs → list_any ends_line (take n xs) ≡ false
white_dark zero xs le = refl
white_dark (suc n) [] le = refl
white_dark (suc n) (x ∷ xs) le = elim (cases_Bool (is_white x)) [
  | inl w ↦
      let more : indent (x ∷ xs) ≡ 1 + indent xs = cond-true (is_white x) _ _ w in
      or_from (ends_line x) (list_any ends_line (take n xs))
      (or_parts (ends_line x) (eqb x 257) (passes_no_eol is_white refl refl refl x w)).0 (white_dark n xs (omega arith))
  | inr fails ↦ let none : indent (x ∷ xs) ≡ 0 = cond-false (is_white x) (1 + indent xs) 0 fails in absurd (omega arith)
]

-- a line ending and the white space after it, in bytes
pub record EndingStep (on : Constructs) (names : Names) (xs : List ℕ) (e : LineEnding) (size : ℕ) : Type 0 where
  pub parts : xs ≡ ending_bytes e ++ drop size xs
  pub is : size ≡ length (ending_bytes e)
  pub apart : IsApart e (drop size xs)
  pub text : string_text on names (content_codes xs) ≡ ending_bytes e ++ string_text on names (content_codes (bare (drop size xs)))
  pub cut : IsUtf8 xs → IsCharBoundary xs (size + indent (drop size xs))

pub ending_step : (on : Constructs) (names : Names) (xs : List ℕ) (found : Ending) → AreBytes xs → ReadsEnding xs found
    → EndingStep on names xs found.ending found.size
ending_step on names xs found bytes reads =
    let e = found.ending in
    let n = found.size in
    let ys = drop n xs in
    let later : AreBytes ys = λ k. subst (λ b. b < 256) (sym (get_or-drop n xs k 0)) (bytes (n + k)) in
    let parts : xs ≡ ending_bytes e ++ ys =
    sym (bytes_back xs bytes) ∙ ap (flat_map code_text) reads.codes ∙ ap₂ (λ a b. a ++ b) (code_is e) (bytes_back ys later) in
    let white = indent ys in
    let within = prefix_len-le-length is_white ys in
    record {
      parts = parts;
      is = omega (arith, ap length parts, length-append (ending_bytes e) ys, length-drop n xs, reads.within);
      apart = ap content_codes (sym parts) ∙ reads.codes;
      text =
          ap (string_text on names) reads.codes ∙ ending_text on names (line_ending_code e) (content_codes ys) (ending_is_eol e)
          ∙ ap₂ (λ a b. a ++ string_text on names b) (eol_is_ending e) (after_codes is_white refl refl ys);
      cut = λ utf8. elim (cases_zero white) [
        | inl none ↦
            let same : n + white ≡ n = omega arith in
            subst (IsCharBoundary xs) (sym same) (boundary_after_byte xs n utf8 reads.some reads.within reads.ascii)
        | inr some ↦
            let place : get_or ys (white - 1) 0 ≡ get_or xs (n + white - 1) 0 =
            get_or-drop n xs (white - 1) 0 ∙ ap (λ k. get_or xs k 0) (omega arith) in
            boundary_after_byte xs (n + white) utf8 (omega arith) (omega (arith, within, length-drop n xs, reads.within))
            (subst (λ b. b < 128) place (white_last ys white later some (omega arith)))
      ];
    }
  where
    cases_zero : (n : ℕ) → (n ≡ 0) ⊎ (0 < n)
    cases_zero zero = inl refl
    cases_zero (suc n) = inr (omega arith)

-- white space before a line ending, in bytes
pub record WhiteStep (on : Constructs) (names : Names) (xs : List ℕ) (n : ℕ) : Type 0 where
  pub text : string_text on names (content_codes xs) ≡ string_text on names (content_codes (drop n xs))
  pub cut : IsUtf8 xs → IsCharBoundary xs n

pub white_step : (on : Constructs) (names : Names) (xs : List ℕ) (n : ℕ) → AreBytes xs → n ≡ indent xs → 0 < n
    → begins_with_eol (content_codes (drop n xs)) ≡ true → WhiteStep on names xs n
white_step on names xs n bytes is some ends =
    let cs = content_codes xs in
    let left : bare cs ≡ content_codes (bare xs) = after_codes is_white refl refl xs in
    let size : indent cs ≡ indent xs = prefix_codes is_white refl refl xs in
    let same : content_codes (bare xs) ≡ content_codes (drop n xs) = ap (λ k. content_codes (drop k xs)) (sym is) in
    record {
      text = spaces_text on names cs (omega arith) (ap begins_with_eol (left ∙ same) ∙ ends) ∙ ap (string_text on names) (left ∙ same);
      cut = λ utf8. boundary_after_byte xs n utf8 some (omega (arith, is, prefix_len-le-length is_white xs)) (white_last xs n bytes some (omega arith));
    }

-- nothing after white space
pub no_spaces : (xs : List ℕ) → begins_with_eol (content_codes (drop (indent xs) xs)) ≡ false
    → (leb 1 (indent (content_codes xs)) && begins_with_eol (bare (content_codes xs))) ≡ false
no_spaces xs h = and_right (leb 1 (indent (content_codes xs))) _ (ap begins_with_eol (after_codes is_white refl refl xs) ∙ h)

-- an ending stays apart from what comes after the string
pub apart_more : (e : LineEnding) (xs content : List ℕ) → IsApart e xs → (xs ≡ [] → begins_feed content ≡ false) → IsApart e (xs ++ content)
apart_more LineFeed xs content is other = refl
apart_more CarriageReturnLineFeed xs content is other = refl
apart_more CarriageReturn [] content is other = alone_codes 13 content refl (other refl)
apart_more CarriageReturn (x ∷ xs) content is other = elim (cases_Bool (eqb x 10)) [
  | inl feed ↦ let both : 257 ∷ content_codes xs ≡ 13 ∷ content_codes (x ∷ xs) = sym (feed_codes 13 x xs refl feed) ∙ is in cc
  | inr alone ↦ alone_codes 13 ((x ∷ xs) ++ content) refl alone
]

pub bytes_drop : (n : ℕ) (xs : List ℕ) → AreBytes xs → AreBytes (drop n xs)
bytes_drop n xs bytes k = subst (λ b. b < 256) (sym (get_or-drop n xs k 0)) (bytes (n + k))

-- what was found, if anything was
pub leaf_there : (xs : List ℕ) (read : Option Leaf) (found : Option Found) → found_leaf xs read ≡ found → is_some read ≡ true
    → (f : Found) × (found ≡ Some f)
leaf_there xs None found h some = cc
leaf_there xs (Some l) found h some = (leaf (parts_of l.part) (size_before xs l.after.now), sym h)

pub leaf_absent : (xs : List ℕ) (read : Option Leaf) (found : Option Found) → found_leaf xs read ≡ found → is_some read ≡ false → found ≡ None
leaf_absent xs None found h none = sym h
leaf_absent xs (Some l) found h none = cc

pub ending_there : (xs : List ℕ) (read : Option Ending) → MatchOption read (begins_with_eol (content_codes xs) ≡ false) (λ found. ReadsEnding xs found)
    → is_some read ≡ begins_with_eol (content_codes xs)
ending_there xs None h = sym h
ending_there xs (Some found) h = sym (ap begins_with_eol h.codes ∙ ending_is_eol found.ending)

-- a line ending after white space, but none before it
pub white_some : (xs : List ℕ) (n : ℕ) → begins_with_eol (content_codes xs) ≡ false → begins_with_eol (content_codes (drop n xs)) ≡ true → 0 < n
white_some xs zero first later = absurd (true≢false (sym later ∙ first))
white_some xs (suc n) first later = omega arith
