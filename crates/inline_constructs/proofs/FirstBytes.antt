-- Which constructs begin with a byte.
use Rattle.std.proofs.Common.{◌≡◌, ◌⊎◌, ℕ, ◌<◌, List, [], ◌∷◌, false, not, ◌||◌, eqb, Option, None, Some, refl, sym, ap, ◌∙◌, get_or, length, arith, inl, inr}
use Rattle.std.specs.Prelude.{nat_le}
use Rattle.inline_constructs.proofs.Prelude.{and_left, and_right, at_return, autolink_at, cases_Bool, cond-false, cond-true, Constructs, content_codes}
use Rattle.inline_constructs.proofs.Prelude.{eqb-false, eqb-true, escaped_break_at, html_text_at, is_eol, may_open_math, ne_eqb, or_else, or_from, plain_code}
use Rattle.inline_constructs.proofs.Prelude.{run}
use Rattle.markdown_options.specs.declared.configuration.ParseOptions.{ParseOptions}
use Rattle.definition_inline.specs.CharacterEscape.{escape_at}
use Rattle.definition_inline.specs.CharacterReference.{reference_at, reference_form, reference_of}
use Rattle.definition_inline.specs.CodeText.{code_text_at}
use Rattle.definition_inline.specs.MathText.{math_text_at}
use Rattle.definition_text.specs.Columns.{is_white, indent}
use Rattle.definition_inline.specs.HardBreak.{line_end_at, line_spaces_at}
use Rattle.definition_inline.specs.Inline.{Found}
use Rattle.inline_leaves.specs.Scanned.{leaf_in}

-- what is the same for all codes that the first may be
skip : {A : Type 0} (f : List ℕ → A) (y : A) (P : ℕ → Type 0) → P 13 → P 257 → f [] ≡ y → ((c : ℕ) (cs : List ℕ) → P c → f (c ∷ cs) ≡ y)
    → (xs : List ℕ) → P (get_or xs 0 0) → f (content_codes xs) ≡ y
skip f y P alone both empty none [] p = empty
skip f y P alone both empty none (x ∷ xs) p = elim (cases_Bool (eqb x 13)) [
  | inl h ↦ ap (λ b. f (content_codes (b ∷ xs))) (eqb-true x 13 h) ∙ at_return f y xs (λ cs. none 13 cs alone) (λ cs. none 257 cs both)
  | inr h ↦ ap f (plain_code x xs (eqb-false x 13 h)) ∙ none x (content_codes xs) p
]

abbrev IsNot : ℕ → ℕ → Type 0
IsNot k c = c ≡ k → ⊥

later : (a b : Option Found) → a ≡ None → or_else a b ≡ b
later a b none = ap (λ o. or_else o b) none

alone : (a b : Option Found) → b ≡ None → or_else a b ≡ a
alone None b none = none
alone (Some found) b none = refl

module _ (options : ParseOptions) (names : List ℕ → Option (List ℕ)) (xs : List ℕ) where
  abbrev on : Constructs
  on = options.constructs

  no_escape : IsNot 92 (get_or xs 0 0) → escape_at on (content_codes xs) ≡ None
  no_escape p = skip (escape_at on) None (IsNot 92) (λ e. omega arith) (λ e. omega arith) refl none xs p
    where
      none : (c : ℕ) (cs : List ℕ) → IsNot 92 c → escape_at on (c ∷ cs) ≡ None
      none c [] other = refl
      none c (next ∷ cs) other = cond-false _ _ _ (and_right on.character_escape _ (and_left (eqb c 92) _ (ne_eqb c 92 other)))

  no_break : IsNot 92 (get_or xs 0 0) → escaped_break_at on (content_codes xs) ≡ None
  no_break p =
      skip (escaped_break_at on) None (IsNot 92) (λ e. omega arith) (λ e. omega arith) refl
      (λ c cs other. cond-false _ _ _ (and_right on.hard_break_escape _ (and_left (eqb c 92) _ (ne_eqb c 92 other)))) xs p

  no_reference : IsNot 38 (get_or xs 0 0) → reference_at on names (content_codes xs) ≡ None
  no_reference p = skip (reference_at on names) None (IsNot 38) (λ e. omega arith) (λ e. omega arith) (none [] refl)
      (λ c cs other. none (c ∷ cs) (cond-false (eqb c 38) _ _ (ne_eqb c 38 other))) xs p
    where
      none : (codes : List ℕ) → reference_form codes ≡ None → reference_at on names codes ≡ None
      none codes form = elim (cases_Bool on.character_reference) [
        | inl h ↦ cond-true on.character_reference _ _ h ∙ ap (reference_of names codes) form
        | inr h ↦ cond-false on.character_reference _ _ h
      ]

  no_code : IsNot 96 (get_or xs 0 0) → code_text_at on (content_codes xs) ≡ None
  no_code p = skip (code_text_at on) None (IsNot 96) (λ e. omega arith) (λ e. omega arith) (none [] refl)
      (λ c cs other. none (c ∷ cs) (cond-false (eqb c 96) _ _ (ne_eqb c 96 other))) xs p
    where
      none : (codes : List ℕ) → run 96 codes ≡ 0 → code_text_at on codes ≡ None
      none codes size = cond-false _ _ _ (and_right on.code_text _ (ap (λ n. not (eqb n 0)) size))

  no_math : IsNot 36 (get_or xs 0 0) → math_text_at options (content_codes xs) ≡ None
  no_math p = skip (math_text_at options) None (IsNot 36) (λ e. omega arith) (λ e. omega arith) (none [] refl)
      (λ c cs other. none (c ∷ cs) (cond-false (eqb c 36) _ _ (ne_eqb c 36 other))) xs p
    where
      none : (codes : List ℕ) → run 36 codes ≡ 0 → math_text_at options codes ≡ None
      none codes size = cond-false _ _ _ (and_right (may_open_math options (run 36 codes)) _ (ap (λ n. not (eqb n 0)) size))

  no_autolink : IsNot 60 (get_or xs 0 0) → autolink_at on (content_codes xs) ≡ None
  no_autolink p =
      skip (autolink_at on) None (IsNot 60) (λ e. omega arith) (λ e. omega arith) (cond-false _ _ _ (and_right on.autolink false refl))
      (λ c cs other. cond-false _ _ _ (and_right on.autolink _ (and_left (eqb 60 c) _ (ne_eqb 60 c (λ e. other (sym e)))))) xs p

  no_html : IsNot 60 (get_or xs 0 0) → html_text_at on (content_codes xs) ≡ None
  no_html p =
      skip (html_text_at on) None (IsNot 60) (λ e. omega arith) (λ e. omega arith) (cond-false _ _ _ (and_right on.html_text false refl))
      (λ c cs other. cond-false _ _ _ (and_right on.html_text _ (and_left (eqb 60 c) _ (ne_eqb 60 c (λ e. other (sym e)))))) xs p

  no_spaces : is_white (get_or xs 0 0) ≡ false → line_spaces_at on (content_codes xs) ≡ None
  no_spaces p =
      skip (line_spaces_at on) None (λ c. is_white c ≡ false) refl refl refl
      (λ c cs other. cond-false _ _ _ (and_left (nat_le 1 (indent (c ∷ cs))) _ (ap (nat_le 1) (cond-false (is_white c) _ 0 other)))) xs p

  no_line_end : IsNot 13 (get_or xs 0 0) → is_eol (get_or xs 0 0) ≡ false → line_end_at (content_codes xs) ≡ None
  no_line_end apart other = by_first xs apart other
    where
      by_first : (ys : List ℕ) → IsNot 13 (get_or ys 0 0) → is_eol (get_or ys 0 0) ≡ false → line_end_at (content_codes ys) ≡ None
      by_first [] apart other = refl
      by_first (y ∷ ys) apart other = ap line_end_at (plain_code y ys apart) ∙ cond-false (is_eol y) _ _ other

  abbrev codes_here : List ℕ
  codes_here = content_codes xs

  -- what comes after the first constructs
  abbrev ends : Option Found
  ends = or_else (line_end_at codes_here) (line_spaces_at on codes_here)

  abbrev angles : Option Found
  angles = or_else (autolink_at on codes_here) (or_else (html_text_at on codes_here) ends)

  abbrev dollars : Option Found
  dollars = or_else (math_text_at options codes_here) angles

  abbrev ticks : Option Found
  ticks = or_else (code_text_at on codes_here) dollars

  abbrev references : Option Found
  references = or_else (reference_at on names codes_here) ticks

  from_references : IsNot 92 (get_or xs 0 0) → leaf_in options names codes_here ≡ references
  from_references p = later _ _ (no_escape p) ∙ later _ _ (no_break p)

  from_ticks : IsNot 38 (get_or xs 0 0) → references ≡ ticks
  from_ticks p = later _ _ (no_reference p)

  from_dollars : IsNot 96 (get_or xs 0 0) → ticks ≡ dollars
  from_dollars p = later _ _ (no_code p)

  from_angles : IsNot 36 (get_or xs 0 0) → dollars ≡ angles
  from_angles p = later _ _ (no_math p)

  from_ends : IsNot 60 (get_or xs 0 0) → angles ≡ ends
  from_ends p = later _ _ (no_autolink p) ∙ later _ _ (no_html p)

  no_ends : IsNot 13 (get_or xs 0 0) → is_eol (get_or xs 0 0) ≡ false → is_white (get_or xs 0 0) ≡ false → ends ≡ None
  no_ends apart eol white = later _ _ (no_line_end apart eol) ∙ no_spaces white

  -- ---- by the first byte

  pub by_backslash : get_or xs 0 0 ≡ 92 → leaf_in options names codes_here ≡ or_else (escape_at on codes_here) (escaped_break_at on codes_here)
  by_backslash e =
      let none : references ≡ None = from_ticks (λ f. omega arith) ∙ from_dollars (λ f. omega arith) ∙ from_angles (λ f. omega arith)
      ∙ from_ends (λ f. omega arith) ∙ no_ends (λ f. omega arith) (ap is_eol e) (ap is_white e) in
      ap (or_else (escape_at on codes_here)) (alone (escaped_break_at on codes_here) references none)

  pub by_ampersand : get_or xs 0 0 ≡ 38 → leaf_in options names codes_here ≡ reference_at on names codes_here
  by_ampersand e =
      let none : ticks ≡ None = from_dollars (λ f. omega arith) ∙ from_angles (λ f. omega arith) ∙ from_ends (λ f. omega arith)
      ∙ no_ends (λ f. omega arith) (ap is_eol e) (ap is_white e) in
      from_references (λ f. omega arith) ∙ alone (reference_at on names codes_here) ticks none

  pub by_backtick : get_or xs 0 0 ≡ 96 → leaf_in options names codes_here ≡ code_text_at on codes_here
  by_backtick e =
      let none : dollars ≡ None = from_angles (λ f. omega arith) ∙ from_ends (λ f. omega arith) ∙ no_ends (λ f. omega arith) (ap is_eol e) (ap is_white e) in
      from_references (λ f. omega arith) ∙ from_ticks (λ f. omega arith) ∙ alone (code_text_at on codes_here) dollars none

  pub by_dollar : get_or xs 0 0 ≡ 36 → leaf_in options names codes_here ≡ math_text_at options codes_here
  by_dollar e =
      let none : angles ≡ None = from_ends (λ f. omega arith) ∙ no_ends (λ f. omega arith) (ap is_eol e) (ap is_white e) in
      from_references (λ f. omega arith) ∙ from_ticks (λ f. omega arith) ∙ from_dollars (λ f. omega arith) ∙ alone (math_text_at options codes_here) angles none

  pub by_angle : get_or xs 0 0 ≡ 60 → leaf_in options names codes_here ≡ or_else (autolink_at on codes_here) (html_text_at on codes_here)
  by_angle e =
      let none : ends ≡ None = no_ends (λ f. omega arith) (ap is_eol e) (ap is_white e) in
      from_references (λ f. omega arith) ∙ from_ticks (λ f. omega arith) ∙ from_dollars (λ f. omega arith) ∙ from_angles (λ f. omega arith)
      ∙ ap (or_else (autolink_at on codes_here)) (alone (html_text_at on codes_here) ends none)

  past_marks : IsNot 92 (get_or xs 0 0) → IsNot 38 (get_or xs 0 0) → IsNot 96 (get_or xs 0 0) → IsNot 36 (get_or xs 0 0) → IsNot 60 (get_or xs 0 0)
      → leaf_in options names codes_here ≡ ends
  past_marks a b c d e = from_references a ∙ from_ticks b ∙ from_dollars c ∙ from_angles d ∙ from_ends e

  pub by_line_end : (get_or xs 0 0 ≡ 10) ⊎ (get_or xs 0 0 ≡ 13) → leaf_in options names codes_here ≡ line_end_at codes_here
  by_line_end (inl e) =
      past_marks (λ f. omega arith) (λ f. omega arith) (λ f. omega arith) (λ f. omega arith) (λ f. omega arith)
      ∙ alone (line_end_at codes_here) _ (no_spaces (ap is_white e))
  by_line_end (inr e) =
      past_marks (λ f. omega arith) (λ f. omega arith) (λ f. omega arith) (λ f. omega arith) (λ f. omega arith)
      ∙ alone (line_end_at codes_here) _ (no_spaces (ap is_white e))

  pub by_white : (get_or xs 0 0 ≡ 9) ⊎ (get_or xs 0 0 ≡ 32) → leaf_in options names codes_here ≡ line_spaces_at on codes_here
  by_white (inl e) =
      past_marks (λ f. omega arith) (λ f. omega arith) (λ f. omega arith) (λ f. omega arith) (λ f. omega arith)
      ∙ later _ _ (no_line_end (λ f. omega arith) (ap is_eol e))
  by_white (inr e) =
      past_marks (λ f. omega arith) (λ f. omega arith) (λ f. omega arith) (λ f. omega arith) (λ f. omega arith)
      ∙ later _ _ (no_line_end (λ f. omega arith) (ap is_eol e))

  pub by_other : get_or xs 0 0 < 256 → IsNot 92 (get_or xs 0 0) → IsNot 38 (get_or xs 0 0) → IsNot 96 (get_or xs 0 0) → IsNot 36 (get_or xs 0 0)
      → IsNot 60 (get_or xs 0 0) → IsNot 10 (get_or xs 0 0) → IsNot 13 (get_or xs 0 0) → IsNot 32 (get_or xs 0 0) → IsNot 9 (get_or xs 0 0)
      → leaf_in options names codes_here ≡ None
  by_other byte a b c d e feed return space tab =
      let x = get_or xs 0 0 in
      past_marks a b c d e
      ∙ no_ends return
      (or_from (eqb x 10 || eqb x 13) (eqb x 257) (or_from (eqb x 10) (eqb x 13) (ne_eqb x 10 feed) (ne_eqb x 13 return)) (ne_eqb x 257 (λ e. omega arith)))
      (or_from (eqb x 32 || eqb x 9) (eqb x 256) (or_from (eqb x 32) (eqb x 9) (ne_eqb x 32 space) (ne_eqb x 9 tab)) (ne_eqb x 256 (λ e. omega arith)))

pub by_nothing : (options : ParseOptions) (names : List ℕ → Option (List ℕ)) (xs : List ℕ) → length xs ≡ 0 → leaf_in options names (content_codes xs) ≡ None
by_nothing options names [] e =
    by_other options names [] (omega arith) (λ f. omega arith) (λ f. omega arith) (λ f. omega arith) (λ f. omega arith)
    (λ f. omega arith) (λ f. omega arith) (λ f. omega arith) (λ f. omega arith) (λ f. omega arith)
by_nothing options names (x ∷ xs) e = absurd (omega arith)
