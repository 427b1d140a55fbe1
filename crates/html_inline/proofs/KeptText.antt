-- The bytes of a string that stand for themselves.
use Rattle.std.proofs.Common.{◌≡◌, ℕ, zero, suc, ◌+◌, ◌-◌, ◌<◌, ◌≤◌, List, [], ◌∷◌, ◌++◌, Bool, true, false, cond, ◌||◌, ◌&&◌, eqb, leb, Option, None, Some}
use Rattle.std.proofs.Common.{refl, sym, ap, ◌∙◌, get_or, length, drop, take, arith, inl, inr, subst}
use Rattle.std.specs.Char.{is_ascii_punctuation}
use Rattle.html_inline.proofs.Prelude.{and_cases, at_return, bare, begins_with_eol, cases_Bool, cases_lt, cond-false, cond-true, content_codes, eqb-false}
use Rattle.html_inline.proofs.Prelude.{eqb-true, flat_map, flat_map-append, indent, InlineLeaf, is_eol, is_ink, is_white, IsCharBoundary}
use Rattle.html_inline.proofs.Prelude.{IsCharBoundary-before_ascii, IsCharBoundary-end, kept_size, leb-false, length-drop, ne_eqb, not-false, not-true}
use Rattle.html_inline.proofs.Prelude.{or_cases, or_from, plain_code, prefix_len, prefix_len-le-length, prefix_len_stops, string_bytes, text_of, true≢false}
use Rattle.std.specs.Str.{IsUtf8}
use Rattle.std.proofs.lemmas.Bool.{cond_both}
use Rattle.std.proofs.lemmas.Bool.{or_parts, and_left, and_right}
use Rattle.std.proofs.lemmas.List.{get_or-drop}
use Rattle.std.proofs.lemmas.List.Sums.{prefix_len_passes}
use Rattle.std.proofs.lemmas.Option.{none-some}
use Rattle.markdown_options.specs.declared.configuration.Constructs.{Constructs}
use Rattle.definition_inline.specs.CharacterEscape.{escape_at}
use Rattle.definition_inline.specs.CharacterReference.{reference_at, reference_of}
use Rattle.definition_inline.specs.HardBreak.{line_end_at}
use Rattle.definition_inline.specs.Inline.{Found, leaf, or_else}
use Rattle.definition_inline.specs.Strings.{spaces_at, string_leaf_at, string_parts, string_text}
use Rattle.definition_inline.proofs.Scanning.{string_step, string_byte}
use Rattle.inline_leaves.specs.Leaves.{IsAfter, size_before}
use Rattle.inline_leaves.proofs.Codes.{boundary_after_byte, prefix_codes}

-- ---- steps

pub none_or : (a b : Option Found) → or_else a b ≡ None → (a ≡ None) × (b ≡ None)
none_or None b h = (refl, h)
none_or (Some found) b h = absurd (none-some _ (sym h))

pub or_none : (a b : Option Found) → a ≡ None → b ≡ None → or_else a b ≡ None
or_none a b e f = ap (λ x. or_else x b) e ∙ f

-- a byte that stands for itself
text_byte : (on : Constructs) (names : List ℕ → Option (List ℕ)) (c : ℕ) (cs : List ℕ) → string_leaf_at on names (c ∷ cs) ≡ None
    → string_text on names (c ∷ cs) ≡ c ∷ string_text on names cs
text_byte on names c cs none = ap (flat_map string_bytes) (string_byte on names c cs none)

-- what a string begins with, and the rest
leaf_text : (on : Constructs) (names : List ℕ → Option (List ℕ)) (codes : List ℕ) (found : Found) → string_leaf_at on names codes ≡ Some found
    → 0 < found.size → 0 < length codes → string_text on names codes ≡ flat_map string_bytes found.parts ++ string_text on names (drop found.size codes)
leaf_text on names [] found is some filled = absurd (omega arith)
leaf_text on names (c ∷ cs) found is some filled =
    ap (flat_map string_bytes) (string_step on names c cs found is some)
    ∙ flat_map-append string_bytes found.parts (string_parts on names 0 (drop found.size (c ∷ cs)))

pub found_text : (on : Constructs) (names : List ℕ → Option (List ℕ)) (content rest : List ℕ) (parts : List InlineLeaf)
    → Some (leaf parts (size_before content rest)) ≡ string_leaf_at on names (content_codes content) → IsAfter content rest
    → text_of on names content ≡ flat_map string_bytes parts ++ text_of on names rest
found_text on names content rest parts is after =
    leaf_text on names (content_codes content) (leaf parts (size_before content rest)) (sym is) (omega (arith, after.fewer)) (omega (arith, after.fewer))
    ∙ ap (λ cs. flat_map string_bytes parts ++ string_text on names cs) (sym after.codes)

-- ---- bytes that begin nothing

escape_other : (on : Constructs) (c : ℕ) (cs : List ℕ) → eqb c 92 ≡ false → escape_at on (c ∷ cs) ≡ None
escape_other on c [] h = refl
escape_other on c (d ∷ ds) h = cond-false _ _ _ (and_right on.character_escape _ (and_left (eqb c 92) (is_ascii_punctuation d) h))

reference_other : (on : Constructs) (names : List ℕ → Option (List ℕ)) (c : ℕ) (cs : List ℕ) → eqb c 38 ≡ false → reference_at on names (c ∷ cs) ≡ None
reference_other on names c cs h =
    ap (λ f. cond on.character_reference (reference_of names (c ∷ cs) f) None) (cond-false (eqb c 38) _ _ h) ∙ by_case on.character_reference
  where
    by_case : (t : Bool) → cond {A = Option Found} t None None ≡ None
    by_case true = refl
    by_case false = refl

-- no escape, reference or line ending
leaf_other : (on : Constructs) (names : List ℕ → Option (List ℕ)) (c : ℕ) (cs : List ℕ) → eqb c 92 ≡ false → eqb c 38 ≡ false → is_eol c ≡ false
    → spaces_at (c ∷ cs) ≡ None → string_leaf_at on names (c ∷ cs) ≡ None
leaf_other on names c cs escape reference eol spaces =
    or_none _ _ (escape_other on c cs escape) (or_none _ _ (reference_other on names c cs reference) (or_none _ _ (cond-false (is_eol c) _ _ eol) spaces))

ink_spaces : (c : ℕ) (cs : List ℕ) → is_white c ≡ false → spaces_at (c ∷ cs) ≡ None
ink_spaces c cs h = cond-false _ _ _ (ap (λ n. leb 1 n && begins_with_eol (bare (c ∷ cs))) (cond-false (is_white c) _ _ h))

-- ---- runs of bytes

abbrev pub AreBytes : List ℕ → Type 0
AreBytes xs = (k : ℕ) → get_or xs k 0 < 256

record IsOther (x : ℕ) : Type 0 where
  backslash : eqb x 92 ≡ false
  reference : eqb x 38 ≡ false
  eol : is_eol x ≡ false
  return : eqb x 13 ≡ false

other_byte : (x : ℕ) → x < 256 → eqb x 92 ≡ false → eqb x 38 ≡ false → eqb x 10 ≡ false → eqb x 13 ≡ false → IsOther x
other_byte x byte backslash reference feed return = record {
  backslash = backslash;
  reference = reference;
  eol = or_from (eqb x 10 || eqb x 13) (eqb x 257) (or_from (eqb x 10) (eqb x 13) feed return) (ne_eqb x 257 (λ e. omega arith));
  return = return;
}

ink_byte : (x : ℕ) → x < 256 → is_ink x ≡ true → IsOther x × (is_white x ≡ false)
ink_byte x byte h =
    let none : (eqb x 92 || eqb x 38 || eqb x 10 || eqb x 13 || eqb x 32 || eqb x 9) ≡ false = not-true _ h in
    let tab = or_parts (eqb x 92 || eqb x 38 || eqb x 10 || eqb x 13 || eqb x 32) (eqb x 9) none in
    let space = or_parts (eqb x 92 || eqb x 38 || eqb x 10 || eqb x 13) (eqb x 32) tab.0 in
    let return = or_parts (eqb x 92 || eqb x 38 || eqb x 10) (eqb x 13) space.0 in
    let feed = or_parts (eqb x 92 || eqb x 38) (eqb x 10) return.0 in
    let marks = or_parts (eqb x 92) (eqb x 38) feed.0 in (
      other_byte x byte marks.0 marks.1 feed.1 return.1,
      or_from (eqb x 32 || eqb x 9) (eqb x 256) (or_from (eqb x 32) (eqb x 9) space.1 tab.1) (ne_eqb x 256 (λ e. omega arith)),
    )

white_byte : (x : ℕ) → x < 256 → is_white x ≡ true → IsOther x
white_byte x byte h = elim (or_cases (eqb x 32 || eqb x 9) (eqb x 256) h) [
  | inl e ↦ elim (or_cases (eqb x 32) (eqb x 9) e) [
    | inl f ↦ other_is x 32 (eqb-true x 32 f) (omega arith) refl refl refl refl
    | inr f ↦ other_is x 9 (eqb-true x 9 f) (omega arith) refl refl refl refl
  ]
  | inr e ↦ let f = eqb-true x 256 e in absurd (omega arith)
]
  where
    other_is : (x y : ℕ) → x ≡ y → y < 256 → eqb y 92 ≡ false → eqb y 38 ≡ false → eqb y 10 ≡ false → eqb y 13 ≡ false → IsOther x
    other_is x y e byte a b c d = subst IsOther (sym e) (other_byte y byte a b c d)

-- bytes that begin nothing
ink_run : (on : Constructs) (names : List ℕ → Option (List ℕ)) (n : ℕ) (xs : List ℕ) → AreBytes xs → n ≤ prefix_len is_ink xs
    → text_of on names xs ≡ take n xs ++ text_of on names (drop n xs)
ink_run on names zero xs bytes le = refl
ink_run on names (suc n) [] bytes le = refl
ink_run on names (suc n) (x ∷ xs) bytes le = elim (cases_Bool (is_ink x)) [
  | inl h ↦
      let is = ink_byte x (bytes zero) h in
      let more : prefix_len is_ink (x ∷ xs) ≡ 1 + prefix_len is_ink xs = cond-true (is_ink x) _ _ h in
      let cs = content_codes xs in
      ap (string_text on names) (plain_code x xs (eqb-false x 13 is.0.return))
      ∙ text_byte on names x cs (leaf_other on names x cs is.0.backslash is.0.reference is.0.eol (ink_spaces x cs is.1))
      ∙ ap (λ s. x ∷ s) (ink_run on names n xs (λ k. bytes (suc k)) (omega arith))
  | inr h ↦ let none : prefix_len is_ink (x ∷ xs) ≡ 0 = cond-false (is_ink x) _ _ h in absurd (omega arith)
]

-- spaces and tabs, which no line ending follows
pub bare_white : (c : ℕ) (cs : List ℕ) → is_white c ≡ true → bare (c ∷ cs) ≡ bare cs
bare_white c cs h =
    let e : indent (c ∷ cs) ≡ 1 + indent cs = cond-true (is_white c) _ _ h in
    let f : 1 + indent cs ≡ suc (indent cs) = omega arith in
    ap (λ n. drop n (c ∷ cs)) (e ∙ f)

white_run : (on : Constructs) (names : List ℕ → Option (List ℕ)) (n : ℕ) (xs : List ℕ) → AreBytes xs → n ≤ prefix_len is_white xs
    → begins_with_eol (bare (content_codes xs)) ≡ false → text_of on names xs ≡ take n xs ++ text_of on names (drop n xs)
white_run on names zero xs bytes le inner = refl
white_run on names (suc n) [] bytes le inner = refl
white_run on names (suc n) (x ∷ xs) bytes le inner = elim (cases_Bool (is_white x)) [
  | inl h ↦
      let is = white_byte x (bytes zero) h in
      let more : prefix_len is_white (x ∷ xs) ≡ 1 + prefix_len is_white xs = cond-true (is_white x) _ _ h in
      let cs = content_codes xs in
      let plain = plain_code x xs (eqb-false x 13 is.return) in
      let later : begins_with_eol (bare cs) ≡ false = ap begins_with_eol (sym (bare_white x cs h)) ∙ ap (λ s. begins_with_eol (bare s)) (sym plain) ∙ inner in
      let none : spaces_at (x ∷ cs) ≡ None = cond-false _ _ _ (and_right (leb 1 (indent (x ∷ cs))) _ (ap begins_with_eol (bare_white x cs h) ∙ later)) in
      ap (string_text on names) plain
      ∙ text_byte on names x cs (leaf_other on names x cs is.backslash is.reference is.eol none)
      ∙ ap (λ s. x ∷ s) (white_run on names n xs (λ k. bytes (suc k)) (omega arith) later)
  | inr h ↦ let none : prefix_len is_white (x ∷ xs) ≡ 0 = cond-false (is_white x) _ _ h in absurd (omega arith)
]

-- ---- what is kept where nothing else begins

-- the first byte is no CR, since no line ending begins
no_return : (xs : List ℕ) → line_end_at (content_codes (13 ∷ xs)) ≡ None → ⊥
no_return xs h = true≢false (sym (at_return (λ cs. is_found (line_end_at cs)) true xs (λ cs. refl) (λ cs. refl)) ∙ ap is_found h)
  where
    is_found : Option Found → Bool
    is_found None = false
    is_found (Some found) = true

record NoLeaf (on : Constructs) (names : List ℕ → Option (List ℕ)) (codes : List ℕ) : Type 0 where
  line_end : line_end_at codes ≡ None
  spaces : spaces_at codes ≡ None

no_leaf : (on : Constructs) (names : List ℕ → Option (List ℕ)) (codes : List ℕ) → string_leaf_at on names codes ≡ None → NoLeaf on names codes
no_leaf on names codes none =
    let first = none_or (escape_at on codes) _ none in
    let second = none_or (reference_at on names codes) _ first.1 in
    let third = none_or (line_end_at codes) (spaces_at codes) second.1 in
    record { line_end = third.0; spaces = third.1 }

white_ascii : (x : ℕ) → x < 256 → is_white x ≡ true → x < 128
white_ascii x byte h = elim (or_cases (eqb x 32 || eqb x 9) (eqb x 256) h) [
  | inl e ↦ elim (or_cases (eqb x 32) (eqb x 9) e) [
    | inl f ↦ let g = eqb-true x 32 f in omega arith
    | inr f ↦ let g = eqb-true x 9 f in omega arith
  ]
  | inr e ↦ let g = eqb-true x 256 e in absurd (omega arith)
]

mark_ascii : (x : ℕ) → is_ink x ≡ false → x < 128
mark_ascii x h =
    elim (or_cases (eqb x 92 || eqb x 38 || eqb x 10 || eqb x 13 || eqb x 32) (eqb x 9) (not-false _ h)) [
      | inr e ↦ let f = eqb-true x 9 e in omega arith
      | inl t ↦ elim (or_cases (eqb x 92 || eqb x 38 || eqb x 10 || eqb x 13) (eqb x 32) t) [
        | inr e ↦ let f = eqb-true x 32 e in omega arith
        | inl u ↦ elim (or_cases (eqb x 92 || eqb x 38 || eqb x 10) (eqb x 13) u) [
          | inr e ↦ let f = eqb-true x 13 e in omega arith
          | inl v ↦ elim (or_cases (eqb x 92 || eqb x 38) (eqb x 10) v) [
            | inr e ↦ let f = eqb-true x 10 e in omega arith
            | inl w ↦ elim (or_cases (eqb x 92) (eqb x 38) w) [
              | inl e ↦ let f = eqb-true x 92 e in omega arith
              | inr e ↦ let f = eqb-true x 38 e in omega arith
            ]
          ]
        ]
      ]
    ]

ink_within : (xs : List ℕ) → 0 < length xs → 1 + prefix_len is_ink (drop 1 xs) ≤ length xs
ink_within xs some = omega (arith, some, prefix_len-le-length is_ink (drop 1 xs), length-drop 1 xs)

pub kept_within : (xs : List ℕ) → 0 < length xs → kept_size xs ≤ length xs
kept_within xs some =
    cond_both (eqb (indent xs) 0) (1 + prefix_len is_ink (drop 1 xs)) (indent xs) (λ n. n ≤ length xs) (λ e. ink_within xs some)
    (λ e. prefix_len-le-length is_white xs)

pub kept_some : (xs : List ℕ) → 0 < kept_size xs
kept_some xs =
    cond_both (eqb (indent xs) 0) (1 + prefix_len is_ink (drop 1 xs)) (indent xs) (λ n. 0 < n) (λ e. omega arith)
    (λ e. let apart : indent xs ≡ 0 → ⊥ = eqb-false (indent xs) 0 e in omega (arith, apart))

pub white_boundary : (xs : List ℕ) (n : ℕ) → AreBytes xs → IsUtf8 xs → n ≡ indent xs → 0 < n → IsCharBoundary xs n
white_boundary xs n bytes utf8 e some =
    boundary_after_byte xs n utf8 some (omega (arith, e, prefix_len-le-length is_white xs))
    (white_ascii (get_or xs (n - 1) 0) (bytes (n - 1)) (prefix_len_passes is_white xs (n - 1) 0 (omega arith)))

ink_boundary : (xs : List ℕ) (n : ℕ) → 0 < length xs → n ≡ 1 + prefix_len is_ink (drop 1 xs) → IsCharBoundary xs n
ink_boundary xs n some e = elim (cases_lt n (length xs)) [
  | inl lt ↦
      let rest = drop 1 xs in
      let m = prefix_len is_ink rest in
      let stops = prefix_len_stops is_ink rest 0 (omega (arith, lt, e, length-drop 1 xs)) in
      let place : get_or rest m 0 ≡ get_or xs n 0 = get_or-drop 1 xs m 0 ∙ ap (λ k. get_or xs k 0) (sym e) in
      IsCharBoundary-before_ascii xs n lt (mark_ascii (get_or xs n 0) (ap is_ink (sym place) ∙ stops))
  | inr ge ↦
      let whole : length xs ≡ n = omega (arith, ge, e, ink_within xs some) in
      subst (IsCharBoundary xs) whole (IsCharBoundary-end xs)
]

pub kept_boundary : (xs : List ℕ) → AreBytes xs → IsUtf8 xs → 0 < length xs → IsCharBoundary xs (kept_size xs)
kept_boundary xs bytes utf8 some =
    cond_both (eqb (indent xs) 0) (1 + prefix_len is_ink (drop 1 xs)) (indent xs) (IsCharBoundary xs) (λ e. ink_boundary xs _ some refl)
    (λ e. let apart : indent xs ≡ 0 → ⊥ = eqb-false (indent xs) 0 e in white_boundary xs (indent xs) bytes utf8 refl (omega (arith, apart)))

-- all spaces and tabs that no line ending follows
inner_white : (xs : List ℕ) → (indent xs ≡ 0 → ⊥) → spaces_at (content_codes xs) ≡ None → begins_with_eol (bare (content_codes xs)) ≡ false
inner_white xs some none =
    let codes = content_codes xs in
    let test = leb 1 (indent codes) && begins_with_eol (bare codes) in
    let size : indent codes ≡ indent xs = prefix_codes is_white refl refl xs in
    elim (cases_Bool test) [
      | inl h ↦ absurd (none-some _ (sym none ∙ cond-true test (Some (leaf [] (indent codes))) None h))
      | inr h ↦ elim (and_cases (leb 1 (indent codes)) (begins_with_eol (bare codes)) h) [
        | inl e ↦ absurd (some (omega (arith, leb-false 1 (indent codes) e, size)))
        | inr e ↦ e
      ]
    ]

-- a byte, and those after it that begin nothing
ink_text : (on : Constructs) (names : List ℕ → Option (List ℕ)) (xs : List ℕ) → AreBytes xs → 0 < length xs → string_leaf_at on names (content_codes xs) ≡ None
    → text_of on names xs ≡ take (1 + prefix_len is_ink (drop 1 xs)) xs ++ text_of on names (drop (1 + prefix_len is_ink (drop 1 xs)) xs)
ink_text on names [] bytes some none = absurd (omega arith)
ink_text on names (x ∷ xs) bytes some none =
    let apart : x ≡ 13 → ⊥ = λ e. no_return xs (ap (λ y. line_end_at (content_codes (y ∷ xs))) (sym e)
    ∙ (no_leaf on names (content_codes (x ∷ xs)) none).line_end) in
    let plain = plain_code x xs apart in
    let n = prefix_len is_ink xs in
    let next : 1 + n ≡ suc n = omega arith in
    ap (string_text on names) plain
    ∙ text_byte on names x (content_codes xs) (ap (string_leaf_at on names) (sym plain) ∙ none)
    ∙ ap (λ s. x ∷ s) (ink_run on names n xs (λ k. bytes (suc k)) (omega arith))
    ∙ ap (λ k. take k (x ∷ xs) ++ text_of on names (drop k (x ∷ xs))) (sym next)

pub kept_text : (on : Constructs) (names : List ℕ → Option (List ℕ)) (xs : List ℕ) → AreBytes xs → 0 < length xs
    → string_leaf_at on names (content_codes xs) ≡ None → text_of on names xs ≡ take (kept_size xs) xs ++ text_of on names (drop (kept_size xs) xs)
kept_text on names xs bytes some none =
    cond_both (eqb (indent xs) 0) (1 + prefix_len is_ink (drop 1 xs)) (indent xs) (λ n. text_of on names xs ≡ take n xs ++ text_of on names (drop n xs))
    (λ e. ink_text on names xs bytes some none)
    (λ e. white_run on names (indent xs) xs bytes (omega arith) (inner_white xs (eqb-false (indent xs) 0 e) (no_leaf on names (content_codes xs) none).spaces))
