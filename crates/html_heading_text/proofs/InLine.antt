-- The bytes before a line ending.
use Rattle.std.proofs.Common.{◌≡◌, ℕ, zero, suc, ◌+◌, ◌<◌, ◌≤◌, List, [], ◌∷◌, ◌++◌, Bool, true, false, not, ◌&&◌, ◌||◌, eqb, refl, sym, ap, ◌∙◌, get_or}
use Rattle.std.proofs.Common.{length, drop, take, map, arith, inl, inr, subst}
use Rattle.definition_inline.specs.CodeText.{code_space, is_padded}
use Rattle.definition_inline.specs.Strings.{begins_with_eol}
use Rattle.definition_text.specs.Content.{content_codes, is_eol, line_ending_code}
use Rattle.html_heading_text.specs.CodeBytes.{is_in_line, spaces_for_endings}
use Rattle.inline_leaves.proofs.Codes.{at_return, plain_code}
use Rattle.markdown_options.specs.declared.line_ending.LineEnding.{LineEnding}
use Rattle.std.proofs.lemmas.Bool.{and_cases, and_parts, cases_Bool, cases_lt, cond-false, cond-true, eqb-false, eqb-true, false≢true, ne_eqb, not-false}
use Rattle.std.proofs.lemmas.Bool.{not-true, or_from}
use Rattle.std.proofs.lemmas.List.Sums.{prefix_len-le-length, prefix_len_stops}
use Rattle.std.proofs.lemmas.Str.{IsCharBoundary-before_ascii, IsCharBoundary-end}
use Rattle.std.specs.List.{prefix_len}
use Rattle.std.specs.Str.{IsCharBoundary}
use Rattle.markdown_options.specs.declared.line_ending.LineEnding.TheVariants.{CarriageReturnLineFeed, CarriageReturn, LineFeed}
use Rattle.definition_text.specs.Columns.{is_tab_column}

-- no ending, and no column of a tab
pub in_line : (x : ℕ) → is_in_line x ≡ true → (eqb x 10 ≡ false) × (eqb x 13 ≡ false)
in_line x h = let parts = and_parts (not (eqb x 10)) (not (eqb x 13)) h in (not-true (eqb x 10) parts.0, not-true (eqb x 13) parts.1)

pub in_line_eol : (x : ℕ) → x < 256 → is_in_line x ≡ true → is_eol x ≡ false
in_line_eol x byte h =
    let is = in_line x h in
    or_from (eqb x 10 || eqb x 13) (eqb x 257) (or_from (eqb x 10) (eqb x 13) is.0 is.1) (ne_eqb x 257 (λ e. omega arith))

in_line_space : (x : ℕ) → x < 256 → is_in_line x ≡ true → code_space x ≡ x
in_line_space x byte h =
    cond-false (is_eol x || is_tab_column x) 32 x (or_from (is_eol x) (is_tab_column x) (in_line_eol x byte h) (ne_eqb x 256 (λ e. omega arith)))

pub line_codes : (n : ℕ) (xs : List ℕ) → n ≤ prefix_len is_in_line xs → content_codes xs ≡ take n xs ++ content_codes (drop n xs)
line_codes zero xs le = refl
line_codes (suc n) [] le = refl
line_codes (suc n) (x ∷ xs) le = elim (cases_Bool (is_in_line x)) [
  | inl h ↦
      let more : prefix_len is_in_line (x ∷ xs) ≡ 1 + prefix_len is_in_line xs = cond-true (is_in_line x) _ _ h in
      plain_code x xs (eqb-false x 13 (in_line x h).1) ∙ ap (λ c. x ∷ c) (line_codes n xs (omega arith))
  | inr h ↦ let none : prefix_len is_in_line (x ∷ xs) ≡ 0 = cond-false (is_in_line x) _ _ h in absurd (omega arith)
]

pub line_spaced : (n : ℕ) (xs : List ℕ) → ((k : ℕ) → get_or xs k 0 < 256) → n ≤ prefix_len is_in_line xs
    → spaces_for_endings xs ≡ take n xs ++ spaces_for_endings (drop n xs)
line_spaced zero xs bytes le = refl
line_spaced (suc n) [] bytes le = refl
line_spaced (suc n) (x ∷ xs) bytes le = elim (cases_Bool (is_in_line x)) [
  | inl h ↦
      let more : prefix_len is_in_line (x ∷ xs) ≡ 1 + prefix_len is_in_line xs = cond-true (is_in_line x) _ _ h in
      ap (map code_space) (plain_code x xs (eqb-false x 13 (in_line x h).1))
      ∙ ap (λ y. y ∷ spaces_for_endings xs) (in_line_space x (bytes zero) h)
      ∙ ap (λ c. x ∷ c) (line_spaced n xs (λ k. bytes (suc k)) (omega arith))
  | inr h ↦ let none : prefix_len is_in_line (x ∷ xs) ≡ 0 = cond-false (is_in_line x) _ _ h in absurd (omega arith)
]

pub ending_space : (ending : LineEnding) → code_space (line_ending_code ending) ≡ 32
ending_space LineFeed = refl
ending_space CarriageReturn = refl
ending_space CarriageReturnLineFeed = refl

-- a line ending comes first
pub ending_spaced : (xs rest : List ℕ) (ending : LineEnding) → content_codes xs ≡ line_ending_code ending ∷ content_codes rest
    → spaces_for_endings xs ≡ 32 ∷ spaces_for_endings rest
ending_spaced xs rest ending e = ap (map code_space) e ∙ ap (λ y. y ∷ spaces_for_endings rest) (ending_space ending)

-- no line ending comes first
pub first_in_line : (x : ℕ) (xs : List ℕ) → begins_with_eol (content_codes (x ∷ xs)) ≡ false → is_in_line x ≡ true
first_in_line x xs h = elim (cases_Bool (is_in_line x)) [
  | inl e ↦ e
  | inr e ↦ elim (and_cases (not (eqb x 10)) (not (eqb x 13)) e) [
    | inl f ↦
        let is = eqb-true x 10 (not-false _ f) in
        absurd (false≢true (sym h ∙ ap (λ y. begins_with_eol (content_codes (y ∷ xs))) is))
    | inr f ↦
        let is = eqb-true x 13 (not-false _ f) in
        absurd (false≢true (sym h ∙ ap (λ y. begins_with_eol (content_codes (y ∷ xs))) is ∙ at_return begins_with_eol true xs (λ cs. refl) (λ cs. refl)))
  ]
]

pub line_some : (xs : List ℕ) → 0 < length xs → begins_with_eol (content_codes xs) ≡ false → 0 < prefix_len is_in_line xs
line_some [] some h = absurd (omega arith)
line_some (x ∷ xs) some h =
    let e : prefix_len is_in_line (x ∷ xs) ≡ 1 + prefix_len is_in_line xs = cond-true (is_in_line x) _ _ (first_in_line x xs h) in
    omega arith

eol_ascii : (x : ℕ) → is_in_line x ≡ false → x < 128
eol_ascii x e = elim (and_cases (not (eqb x 10)) (not (eqb x 13)) e) [
  | inl f ↦ let is = eqb-true x 10 (not-false _ f) in omega arith
  | inr f ↦ let is = eqb-true x 13 (not-false _ f) in omega arith
]

pub line_boundary : (xs : List ℕ) (n : ℕ) → n ≡ prefix_len is_in_line xs → IsCharBoundary xs n
line_boundary xs n e = elim (cases_lt n (length xs)) [
  | inl lt ↦
      let at = prefix_len is_in_line xs in
      let stops = prefix_len_stops is_in_line xs 0 (omega (arith, lt, e)) in
      IsCharBoundary-before_ascii xs n lt (eol_ascii (get_or xs n 0) (ap (λ k. is_in_line (get_or xs k 0)) e ∙ stops))
  | inr ge ↦
      let whole : length xs ≡ n = omega (arith, ge, e, prefix_len-le-length is_in_line xs) in
      subst (IsCharBoundary xs) whole (IsCharBoundary-end xs)
]

-- after the bytes before a line ending it comes first, or nothing is left
pub line_left : (xs : List ℕ) → begins_with_eol (content_codes (drop (prefix_len is_in_line xs) xs)) ≡ false → drop (prefix_len is_in_line xs) xs ≡ []
line_left [] h = refl
line_left (x ∷ xs) h = elim (cases_Bool (is_in_line x)) [
  | inl e ↦
      let more : prefix_len is_in_line (x ∷ xs) ≡ 1 + prefix_len is_in_line xs = cond-true (is_in_line x) _ _ e in
      let next : prefix_len is_in_line (x ∷ xs) ≡ suc (prefix_len is_in_line xs) = omega arith in
      let rest : drop (prefix_len is_in_line (x ∷ xs)) (x ∷ xs) ≡ drop (prefix_len is_in_line xs) xs = ap (λ k. drop k (x ∷ xs)) next in
      rest ∙ line_left xs (ap (λ r. begins_with_eol (content_codes r)) (sym rest) ∙ h)
  | inr e ↦
      let none : prefix_len is_in_line (x ∷ xs) ≡ 0 = cond-false (is_in_line x) _ _ e in
      absurd (false≢true (sym e ∙ first_in_line x xs (ap (λ k. begins_with_eol (content_codes (drop k (x ∷ xs)))) (sym none) ∙ h)))
]

-- ---- spaces at both ends

pub short_padded : (text : List ℕ) → length text ≤ 1 → is_padded text ≡ false
short_padded [] short = refl
short_padded (a ∷ []) short = by_case (eqb a 32)
  where
    by_case : (t : Bool) → (t && (t && (not t || false))) ≡ false
    by_case true = refl
    by_case false = refl
short_padded (a ∷ b ∷ bs) short = absurd (omega arith)

pub padded_start : (text : List ℕ) → is_padded text ≡ true → get_or text 0 0 ≡ 32
padded_start text h = eqb-true (get_or text 0 0) 32 (and_parts (eqb (get_or text 0 0) 32) _ h).0
