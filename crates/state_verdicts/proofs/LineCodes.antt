-- Lines and white space at the front of codes.
use Rattle.std.proofs.Common.{◌≡◌, ◌∙◌, ℕ, suc, ◌+◌, ◌*◌, ◌<◌, ◌≤◌, Bool, true, false, not, ◌==◌, ◌&&◌, if◌then◌else◌, List, [], ◌∷◌, length, take, drop, refl, sym}
use Rattle.std.proofs.Common.{ap, arith, inl, inr, Option, Some, None}
use Rattle.definition_text.specs.Lines.{in_first_line, text_line}
use Rattle.markdown_options.specs.declared.line_ending.LineEnding.{LineEnding}
use Rattle.markdown_options.specs.declared.line_ending.LineEnding.TheVariants.{LineFeed}
use Rattle.state_verdicts.proofs.BlockPrelude.{after_line, bare, cases_Bool, indent, is_eol, is_inner, is_white, line_of, list_all, prefix_len}
use Rattle.state_verdicts.specs.Lines.{code_lines}
use Rattle.state_verdicts.proofs.Seen.{white_inner}

module _ (p : ℕ → Bool) where
  prefix_by : (c : ℕ) (cs : List ℕ) (is : Bool) → p c ≡ is → prefix_len p (c ∷ cs) ≡ (if is then 1 + prefix_len p cs else 0)
  prefix_by c cs is h = ap (λ (b : Bool). if b then 1 + prefix_len p cs else 0) h

  -- how long a prefix is
  pub prefix_more : (c : ℕ) (cs : List ℕ) → p c ≡ true → prefix_len p (c ∷ cs) ≡ suc (prefix_len p cs)
  prefix_more c cs h = prefix_by c cs true h ∙ (let e : 1 + prefix_len p cs ≡ suc (prefix_len p cs) = omega arith in e)

  pub prefix_none : (c : ℕ) (cs : List ℕ) → p c ≡ false → prefix_len p (c ∷ cs) ≡ 0
  prefix_none c cs h = prefix_by c cs false h

  -- the rest after a prefix
  pub rest_more : (c : ℕ) (cs : List ℕ) → p c ≡ true → drop (prefix_len p (c ∷ cs)) (c ∷ cs) ≡ drop (prefix_len p cs) cs
  rest_more c cs h = ap (λ (n : ℕ). drop n (c ∷ cs)) (prefix_more c cs h)

  pub rest_none : (c : ℕ) (cs : List ℕ) → p c ≡ false → drop (prefix_len p (c ∷ cs)) (c ∷ cs) ≡ c ∷ cs
  rest_none c cs h = ap (λ (n : ℕ). drop n (c ∷ cs)) (prefix_none c cs h)

  -- no longer than the codes
  pub rest_within : (cs : List ℕ) → length (drop (prefix_len p cs) cs) ≤ length cs
  rest_within [] = omega arith
  rest_within (c ∷ cs) = elim (cases_Bool (p c)) [
    | inl h ↦ let f = rest_within cs in let e = ap length (rest_more c cs h) in omega (arith, f, e)
    | inr h ↦ let e = ap length (rest_none c cs h) in omega (arith, e)
  ]

inner_is : (c : ℕ) (b : Bool) → is_eol c ≡ b → is_inner c ≡ not b
inner_is c b h = ap not h

-- a line by its first code
pub line_more : (c : ℕ) (cs : List ℕ) → is_eol c ≡ false → line_of (c ∷ cs) ≡ c ∷ line_of cs
line_more c cs h = ap (λ (n : ℕ). take n (c ∷ cs)) (prefix_more is_inner c cs (inner_is c false h))

pub line_none : (c : ℕ) (cs : List ℕ) → is_eol c ≡ true → line_of (c ∷ cs) ≡ []
line_none c cs h = ap (λ (n : ℕ). take n (c ∷ cs)) (prefix_none is_inner c cs (inner_is c true h))

pub after_more : (c : ℕ) (cs : List ℕ) → is_eol c ≡ false → after_line (c ∷ cs) ≡ after_line cs
after_more c cs h = rest_more is_inner c cs (inner_is c false h)

pub after_none : (c : ℕ) (cs : List ℕ) → is_eol c ≡ true → after_line (c ∷ cs) ≡ c ∷ cs
after_none c cs h = rest_none is_inner c cs (inner_is c true h)

-- the line after its white space ends where the line does
pub after_bare : (cs : List ℕ) → after_line (bare cs) ≡ after_line cs
after_bare [] = refl
after_bare (c ∷ cs) = elim (cases_Bool (is_white c)) [
  | inl h ↦ ap after_line (rest_more is_white c cs h) ∙ (after_bare cs ∙ sym (after_more c cs (white_inner c h)))
  | inr h ↦ ap after_line (rest_none is_white c cs h)
]

-- no white space is left after it
pub bare_apart : (cs : List ℕ) → indent (bare cs) ≡ 0
bare_apart [] = refl
bare_apart (c ∷ cs) = elim (cases_Bool (is_white c)) [
  | inl h ↦ ap indent (rest_more is_white c cs h) ∙ bare_apart cs
  | inr h ↦ ap indent (rest_none is_white c cs h) ∙ prefix_none is_white c cs h
]

-- so the first code is none
pub none_white : (c : ℕ) (cs : List ℕ) → indent (c ∷ cs) ≡ 0 → is_white c ≡ false
none_white c cs h = none_by (is_white c) refl
  where
    none_by : (b : Bool) → is_white c ≡ b → b ≡ false
    none_by true k = let e = prefix_more is_white c cs k in absurd (omega (arith, e, h))
    none_by false k = refl

-- a line is no longer than the codes
pub line_within : (cs : List ℕ) → length (line_of cs) ≤ length cs
line_within [] = omega arith
line_within (c ∷ cs) = elim (cases_Bool (is_eol c)) [
  | inl h ↦ let e = ap length (line_none c cs h) in omega (arith, e)
  | inr h ↦ let e = ap length (line_more c cs h) in let f = line_within cs in omega (arith, e, f)
]

-- ---- how many bytes codes may give

-- a tab gives up to four, and any other code one
abbrev pub weight : List ℕ → ℕ
weight [] = 0
weight (c ∷ cs) = (if c == 9 then 4 else 1) + weight cs

weighs : (c : ℕ) (cs : List ℕ) (is : Bool) → (c == 9) ≡ is → weight (c ∷ cs) ≡ (if is then 4 else 1) + weight cs
weighs c cs is h = ap (λ (b : Bool). (if b then 4 else 1) + weight cs) h

-- at least one
pub weight_some : (c : ℕ) (cs : List ℕ) → weight cs < weight (c ∷ cs)
weight_some c cs = elim (cases_Bool (c == 9)) [
  | inl h ↦ let e = weighs c cs true h in omega (arith, e)
  | inr h ↦ let e = weighs c cs false h in omega (arith, e)
]

pub weight_four : (cs : List ℕ) → weight cs ≤ 4 * length cs
weight_four [] = omega arith
weight_four (c ∷ cs) = elim (cases_Bool (c == 9)) [
  | inl h ↦ let e = weighs c cs true h in let f = weight_four cs in omega (arith, e, f)
  | inr h ↦ let e = weighs c cs false h in let f = weight_four cs in omega (arith, e, f)
]

pub weight_bare : (cs : List ℕ) → weight (bare cs) ≤ weight cs
weight_bare [] = omega arith
weight_bare (c ∷ cs) = elim (cases_Bool (is_white c)) [
  | inl h ↦ let e = ap weight (rest_more is_white c cs h) in let f = weight_bare cs in let s = weight_some c cs in omega (arith, e, f, s)
  | inr h ↦ let e = ap weight (rest_none is_white c cs h) in omega (arith, e)
]

pub weight_line_bare : (cs : List ℕ) → weight (line_of (bare cs)) ≤ weight (line_of cs)
weight_line_bare [] = omega arith
weight_line_bare (c ∷ cs) = elim (cases_Bool (is_white c)) [
  | inl h ↦
      let e = ap (λ (l : List ℕ). weight (line_of l)) (rest_more is_white c cs h) in
      let f = weight_line_bare cs in
      let s = weight_some c (line_of cs) in
      let l = ap weight (line_more c cs (white_inner c h)) in omega (arith, e, f, s, l)
  | inr h ↦ let e = ap (λ (l : List ℕ). weight (line_of l)) (rest_none is_white c cs h) in omega (arith, e)
]

-- a prefix within a line
module _ (p : ℕ → Bool) (inner : (c : ℕ) → p c ≡ true → is_eol c ≡ false) where
  pub after_rest : (cs : List ℕ) → after_line (drop (prefix_len p cs) cs) ≡ after_line cs
  after_rest [] = refl
  after_rest (c ∷ cs) = elim (cases_Bool (p c)) [
    | inl h ↦ ap after_line (rest_more p c cs h) ∙ (after_rest cs ∙ sym (after_more c cs (inner c h)))
    | inr h ↦ ap after_line (rest_none p c cs h)
  ]

  pub prefix_line : (cs : List ℕ) → prefix_len p (line_of cs) ≡ prefix_len p cs
  prefix_line [] = refl
  prefix_line (c ∷ cs) = elim (cases_Bool (p c)) [
    | inl h ↦
        let line = ap (prefix_len p) (line_more c cs (inner c h)) in
        let there = prefix_more p c (line_of cs) h in
        let more = prefix_more p c cs h in
        let rest = prefix_line cs in omega (arith, line, there, more, rest)
    | inr h ↦ elim (cases_Bool (is_eol c)) [
      | inl eol ↦ ap (prefix_len p) (line_none c cs eol) ∙ sym (prefix_none p c cs h)
      | inr other ↦ ap (prefix_len p) (line_more c cs other) ∙ (prefix_none p c (line_of cs) h ∙ sym (prefix_none p c cs h))
    ]
  ]

  pub line_rest : (cs : List ℕ) → line_of (drop (prefix_len p cs) cs) ≡ drop (prefix_len p (line_of cs)) (line_of cs)
  line_rest [] = refl
  line_rest (c ∷ cs) = elim (cases_Bool (p c)) [
    | inl h ↦ ap line_of (rest_more p c cs h)
        ∙ (line_rest cs ∙ sym (ap (λ (l : List ℕ). drop (prefix_len p l) l) (line_more c cs (inner c h)) ∙ rest_more p c (line_of cs) h))
    | inr h ↦ ap line_of (rest_none p c cs h) ∙ by_code h (is_eol c) refl
  ]
    where
      by_code : p c ≡ false → (eol : Bool) → is_eol c ≡ eol → line_of (c ∷ cs) ≡ drop (prefix_len p (line_of (c ∷ cs))) (line_of (c ∷ cs))
      by_code h true is = line_none c cs is ∙ sym (ap (λ (l : List ℕ). drop (prefix_len p l) l) (line_none c cs is))
      by_code h false is = line_more c cs is ∙ sym (ap (λ (l : List ℕ). drop (prefix_len p l) l) (line_more c cs is) ∙ rest_none p c (line_of cs) h)

  pub weight_rest : (cs : List ℕ) → weight (line_of (drop (prefix_len p cs) cs)) ≤ weight (line_of cs)
  weight_rest [] = omega arith
  weight_rest (c ∷ cs) = elim (cases_Bool (p c)) [
    | inl h ↦
        let e = ap (λ (l : List ℕ). weight (line_of l)) (rest_more p c cs h) in
        let f = weight_rest cs in
        let s = weight_some c (line_of cs) in
        let l = ap weight (line_more c cs (inner c h)) in omega (arith, e, f, s, l)
    | inr h ↦ let e = ap (λ (l : List ℕ). weight (line_of l)) (rest_none p c cs h) in omega (arith, e)
  ]

-- the weight of the white space at the front
abbrev pub white_weight : List ℕ → ℕ
white_weight cs = weight (take (indent cs) cs)

pub white_weighs : (c : ℕ) (cs : List ℕ) → is_white c ≡ true → white_weight (c ∷ cs) ≡ (if c == 9 then 4 else 1) + white_weight cs
white_weighs c cs h = ap (λ (n : ℕ). weight (take n (c ∷ cs))) (prefix_more is_white c cs h)

pub white_within : (cs : List ℕ) → white_weight cs ≤ weight (line_of cs)
white_within [] = omega arith
white_within (c ∷ cs) = elim (cases_Bool (is_white c)) [
  | inl h ↦
      let e = white_weighs c cs h in
      let l = ap weight (line_more c cs (white_inner c h)) in
      let f = white_within cs in by_first (if c == 9 then 4 else 1) e l f
  | inr h ↦ let e = ap (λ (n : ℕ). weight (take n (c ∷ cs))) (prefix_none is_white c cs h) in omega (arith, e)
]
  where
    by_first : (n : ℕ) → white_weight (c ∷ cs) ≡ n + white_weight cs → weight (line_of (c ∷ cs)) ≡ n + weight (line_of cs)
        → white_weight cs ≤ weight (line_of cs) → white_weight (c ∷ cs) ≤ weight (line_of (c ∷ cs))
    by_first n e l f = omega (arith, e, l, f)

-- ---- lines

-- the white space at the front is in the line
pub indent_line : (codes : List ℕ) → indent (line_of codes) ≡ indent codes
indent_line = prefix_line is_white white_inner

-- a line is blank exactly if it is without its white space
pub blank_bare : (cs : List ℕ) → list_all is_white (line_of (bare cs)) ≡ list_all is_white (line_of cs)
blank_bare [] = refl
blank_bare (c ∷ cs) = elim (cases_Bool (is_white c)) [
  | inl h ↦
      ap (λ (l : List ℕ). list_all is_white (line_of l)) (rest_more is_white c cs h)
      ∙ (blank_bare cs ∙ sym (ap (list_all is_white) (line_more c cs (white_inner c h)) ∙ ap (λ (b : Bool). b && list_all is_white (line_of cs)) h))
  | inr h ↦ ap (λ (l : List ℕ). list_all is_white (line_of l)) (rest_none is_white c cs h)
]

-- after a line nothing is left, or its ending
pub after_eol : (cs : List ℕ) (c : ℕ) (ds : List ℕ) → after_line cs ≡ c ∷ ds → is_eol c ≡ true
after_eol [] c ds h = absurd (cc)
after_eol (d ∷ cs) c ds h = elim (cases_Bool (is_eol d)) [
  | inl eol ↦ let e : d ∷ cs ≡ c ∷ ds = sym (after_none d cs eol) ∙ h in let f : d ≡ c = cc in sym (ap is_eol f) ∙ eol
  | inr inner ↦ after_eol cs c ds (sym (after_more d cs inner) ∙ h)
]

-- the first line, and the lines after it
pub record FirstLine (codes : List ℕ) : Type 0 where
  pub ending : Option LineEnding
  pub is : code_lines codes ≡ text_line (line_of codes) ending ∷ code_lines (drop 1 (after_line codes))

at_eol : (code : ℕ) (cs : List ℕ) → is_eol code ≡ true → FirstLine (code ∷ cs)
at_eol code cs h = record {
  ending = Some LineFeed;
  is = ap (λ (b : Bool). if b then text_line [] (Some LineFeed) ∷ code_lines cs else in_first_line code (code_lines cs)) h
      ∙ (ap (λ (l : List ℕ). text_line l (Some LineFeed) ∷ code_lines cs) (sym (line_none code cs h))
      ∙ ap (λ (l : List ℕ). text_line (line_of (code ∷ cs)) (Some LineFeed) ∷ code_lines (drop 1 l)) (sym (after_none code cs h)));
}

inner_first : (code : ℕ) (cs : List ℕ) → is_eol code ≡ false → code_lines (code ∷ cs) ≡ in_first_line code (code_lines cs)
inner_first code cs h = ap (λ (b : Bool). if b then text_line [] (Some LineFeed) ∷ code_lines cs else in_first_line code (code_lines cs)) h

pub first_line_is : (code : ℕ) (cs : List ℕ) → FirstLine (code ∷ cs)
first_line_is code [] = elim (cases_Bool (is_eol code)) [
  | inl h ↦ at_eol code [] h
  | inr h ↦ record {
    ending = None;
    is = inner_first code [] h ∙ (ap (λ (l : List ℕ). text_line l None ∷ []) (sym (line_more code [] h))
        ∙ ap (λ (l : List ℕ). text_line (line_of (code ∷ [])) None ∷ code_lines (drop 1 l)) (sym (after_more code [] h)));
  }
]
first_line_is code (c ∷ cs) = elim (cases_Bool (is_eol code)) [
  | inl h ↦ at_eol code (c ∷ cs) h
  | inr h ↦ let f = first_line_is c cs in record {
    ending = f.ending;
    is = inner_first code (c ∷ cs) h ∙ (ap (in_first_line code) f.is
        ∙ (ap (λ (l : List ℕ). text_line l f.ending ∷ code_lines (drop 1 (after_line (c ∷ cs)))) (sym (line_more code (c ∷ cs) h))
        ∙ ap (λ (l : List ℕ). text_line (line_of (code ∷ c ∷ cs)) f.ending ∷ code_lines (drop 1 l)) (sym (after_more code (c ∷ cs) h))));
  }
]
