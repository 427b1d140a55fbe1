-- White space at the start of a content, in bytes (CommonMark 4.8).
use Rattle.std.proofs.Common.{◌≡◌, ℕ, zero, suc, ◌+◌, ◌-◌, ◌≤◌, true, false, eqb, ◌||◌, List, [], ◌∷◌, ◌++◌, refl, sym, ap, ◌∙◌, inl, inr, subst, length, map, replicate, take, drop, arith}
use Rattle.parse_leaves.proofs.Prelude.{after_return_code, block_codes, bytes_of, cases_Bool, code_byte, code_bytes, cond-false, cond-true, content_codes}
use Rattle.parse_leaves.proofs.Prelude.{drop-drop, ends_line, eqb-true, is_tab_column, is_white, list_any, ne_eqb, prefix_len, Rest, take-append-drop}
use Rattle.parse_leaves.proofs.Prelude.{true≢false}
use Rattle.std.specs.List.{list_all}
use Rattle.parse_lines.proofs.White.{all_prefix}
use Rattle.definition_text.specs.Ascii.{space}
use Rattle.inline_links.specs.Codes.{IsRest}
use Rattle.parse_leaves.proofs.Decoded.{AreSingle, same_bytes}

-- how many spaces and tabs bytes begin with
abbrev pub white_count : List ℕ → ℕ
white_count bs = prefix_len is_white bs

-- bytes that begin with no space or tab
abbrev pub BeginsDark : List ℕ → Type 0
BeginsDark [] = Unit {0}
BeginsDark (b ∷ bs) = is_white b ≡ false

pub count_white : (b : ℕ) (bs : List ℕ) → is_white b ≡ true → white_count (b ∷ bs) ≡ suc (white_count bs)
count_white b bs white = cond-true (is_white b) (1 + white_count bs) 0 white ∙ omega arith

pub count_dark : (b : ℕ) (bs : List ℕ) → is_white b ≡ false → white_count (b ∷ bs) ≡ 0
count_dark b bs dark = cond-false (is_white b) (1 + white_count bs) 0 dark

white_apart : (b : ℕ) → is_white b ≡ true → eqb b 13 ≡ false
white_apart b white = ne_eqb b 13 (λ e. true≢false (sym white ∙ ap is_white e))

white_code : (b : ℕ) (bs : List ℕ) → is_white b ≡ true → content_codes (b ∷ bs) ≡ b ∷ content_codes bs
white_code b bs white = cond-false (eqb b 13) (after_return_code bs (content_codes bs)) (b ∷ content_codes bs) (white_apart b white)

return_dark : (bs codes : List ℕ) → white_count (after_return_code bs codes) ≡ 0
return_dark [] codes = refl
return_dark (b ∷ bs) codes = elim (cases_Bool (eqb b 10)) [
  | inl is ↦ ap white_count (cond-true (eqb b 10) (257 ∷ drop 1 codes) (13 ∷ codes) is)
  | inr other ↦ ap white_count (cond-false (eqb b 10) (257 ∷ drop 1 codes) (13 ∷ codes) other)
]

dark_codes : (b : ℕ) (bs : List ℕ) → is_white b ≡ false → white_count (content_codes (b ∷ bs)) ≡ 0
dark_codes b bs dark = elim (cases_Bool (eqb b 13)) [
  | inl is ↦
      ap white_count (cond-true (eqb b 13) (after_return_code bs (content_codes bs)) (b ∷ content_codes bs) is) ∙ return_dark bs (content_codes bs)
  | inr other ↦
      ap white_count (cond-false (eqb b 13) (after_return_code bs (content_codes bs)) (b ∷ content_codes bs) other) ∙ count_dark b (content_codes bs) dark
]

-- white space at the start has a code a byte
start_codes : (bs : List ℕ) → content_codes (drop (white_count bs) bs) ≡ drop (white_count (content_codes bs)) (content_codes bs)
start_codes [] = refl
start_codes (b ∷ bs) = elim (cases_Bool (is_white b)) [
  | inl white ↦
      ap (λ n. content_codes (drop n (b ∷ bs))) (count_white b bs white)
      ∙ start_codes bs
      ∙ sym (ap (λ n. drop n (b ∷ content_codes bs)) (count_white b (content_codes bs) white))
      ∙ sym (ap (λ (codes : List ℕ). drop (white_count codes) codes) (white_code b bs white))
  | inr dark ↦
      ap (λ n. content_codes (drop n (b ∷ bs))) (count_dark b bs dark)
      ∙ sym (ap (λ n. drop n (content_codes (b ∷ bs))) (dark_codes b bs dark))
]

single_drop : (n : ℕ) (bs : List ℕ) → AreSingle bs → AreSingle (drop n bs)
single_drop zero bs p = p
single_drop (suc n) [] p = p
single_drop (suc n) (b ∷ bs) p = single_drop n bs p.1

-- what is left of a content after the spaces and tabs at its start, by its codes
pub start_is : (content rest : List ℕ) → AreSingle content → IsRest content rest
    → content_codes rest ≡ drop (white_count (content_codes content)) (content_codes content) → rest ≡ drop (white_count content) content
start_is content rest single is codes =
    same_bytes rest (drop (white_count content) content)
    (subst AreSingle (sym is.place) (single_drop (length content - length rest) content single))
    (single_drop (white_count content) content single)
    (codes ∙ sym (start_codes content))

pub start_dark : (bs : List ℕ) → BeginsDark (drop (white_count bs) bs)
start_dark [] = tt
start_dark (b ∷ bs) = elim (cases_Bool (is_white b)) [
  | inl white ↦ subst (λ n. BeginsDark (drop n (b ∷ bs))) (sym (count_white b bs white)) (start_dark bs)
  | inr dark ↦ subst (λ n. BeginsDark (drop n (b ∷ bs))) (sym (count_dark b bs dark)) dark
]

white_no_end : (b : ℕ) → is_white b ≡ true → ends_line b ≡ false
white_no_end b white = elim (cases_Bool (ends_line b)) [
  | inl ends ↦ elim (cases_Bool (eqb b 10)) [
    | inl is ↦ absurd (true≢false (sym white ∙ ap is_white (eqb-true b 10 is)))
    | inr other ↦
        let return : eqb b 13 ≡ true = sym (ap (λ x. x || eqb b 13) other) ∙ ends in
        absurd (true≢false (sym return ∙ white_apart b white))
  ]
  | inr none ↦ none
]

-- so many spaces and tabs from a place on end no line
pub white_in_line : (k n : ℕ) (bs : List ℕ) → k + n ≤ white_count bs → list_any ends_line (take n (drop k bs)) ≡ false
white_in_line k n [] le = none_in k n
  where
    none_in : (k n : ℕ) → list_any ends_line (take n (drop k [])) ≡ false
    none_in zero zero = refl
    none_in zero (suc n) = refl
    none_in (suc k) zero = refl
    none_in (suc k) (suc n) = refl
white_in_line zero zero (b ∷ bs) le = refl
white_in_line zero (suc n) (b ∷ bs) le = elim (cases_Bool (is_white b)) [
  | inl white ↦
      ap (λ x. x || list_any ends_line (take n bs)) (white_no_end b white)
      ∙ white_in_line zero n bs (omega (arith, le, count_white b bs white))
  | inr dark ↦ absurd (omega (arith, le, count_dark b bs dark))
]
white_in_line (suc k) n (b ∷ bs) le = elim (cases_Bool (is_white b)) [
  | inl white ↦ white_in_line k n bs (omega (arith, le, count_white b bs white))
  | inr dark ↦ absurd (omega (arith, le, count_dark b bs dark))
]

-- so many spaces and tabs from a place on
pub white_front : (k n : ℕ) (bs : List ℕ) → k + n ≤ white_count bs → list_all is_white (take n (drop k bs)) ≡ true
white_front zero n bs le = all_prefix is_white n bs (omega (arith, le))
white_front (suc k) n [] le = absurd (omega (arith, le))
white_front (suc k) n (b ∷ bs) le = elim (cases_Bool (is_white b)) [
  | inl white ↦ white_front k n bs (omega (arith, le, count_white b bs white))
  | inr dark ↦ absurd (omega (arith, le, count_dark b bs dark))
]

pub white_fits : (bs : List ℕ) → white_count bs ≤ length bs
white_fits [] = omega arith
white_fits (b ∷ bs) = elim (cases_Bool (is_white b)) [
  | inl white ↦ let h = white_fits bs in omega (arith, count_white b bs white, h)
  | inr dark ↦ omega (arith, count_dark b bs dark)
]

-- what is left of a content from a place in the spaces and tabs at its start on: the others of these, and what follows them
pub white_parts : (k : ℕ) (bs : List ℕ) → k ≤ white_count bs
    → drop k bs ≡ take (white_count bs - k) (drop k bs) ++ drop (white_count bs) bs
white_parts k bs le =
    let more : k + (white_count bs - k) ≡ white_count bs = omega (arith, le) in
    sym (take-append-drop (white_count bs - k) (drop k bs))
    ∙ ap (λ (rest : List ℕ). take (white_count bs - k) (drop k bs) ++ rest) (drop-drop (white_count bs - k) k bs ∙ ap (λ n. drop n bs) more)

white_spaces : (k : ℕ) (bs : List ℕ) → white_count (replicate k space ++ bs) ≡ k + white_count bs
white_spaces zero bs = omega arith
white_spaces (suc k) bs = count_white space (replicate k space ++ bs) refl ∙ ap suc (white_spaces k bs) ∙ omega arith

-- the spaces and tabs that what is left of a line begins with, each column of a cut tab as one
pub white_of_rest : (rest : Rest) → white_count (map code_byte (block_codes rest)) ≡ prefix_len is_tab_column rest + white_count (bytes_of rest)
white_of_rest rest = ap white_count (code_bytes rest) ∙ white_spaces (prefix_len is_tab_column rest) (bytes_of rest)
