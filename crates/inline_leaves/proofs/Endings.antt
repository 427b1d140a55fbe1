-- Line endings in codes.
use Rattle.std.proofs.Common.{◌≡◌, ℕ, ◌<◌, List, [], ◌∷◌, Bool, true, false, eqb, ◌||◌, refl, sym, ap, ◌∙◌, length, arith}
use Rattle.std.proofs.lemmas.Bool.{cond-false, ne_eqb, or_from}
use Rattle.markdown_options.specs.declared.line_ending.LineEnding.{LineEnding}
use Rattle.markdown_options.specs.declared.line_ending.LineEnding.TheVariants.{CarriageReturnLineFeed, CarriageReturn, LineFeed}
use Rattle.definition_text.specs.Content.{content_codes, line_ending_code, is_eol}
use Rattle.definition_inline.specs.Strings.{begins_with_eol}
use Rattle.definition_inline.specs.HardBreak.{ends_inner_line, ends_here}
use Rattle.inline_links.proofs.Cuts.{codes_some}

pub ending_is_eol : (ending : LineEnding) → is_eol (line_ending_code ending) ≡ true
ending_is_eol LineFeed = refl
ending_is_eol CarriageReturn = refl
ending_is_eol CarriageReturnLineFeed = refl

-- a byte that begins no line ending
pub no_ending : (b : ℕ) (bs : List ℕ) → (b ≡ 10 → ⊥) → (b ≡ 13 → ⊥) → b < 256 → begins_with_eol (content_codes (b ∷ bs)) ≡ false
no_ending b bs feed return byte =
    ap begins_with_eol (cond-false (eqb b 13) _ _ (ne_eqb b 13 return))
    ∙ or_from (eqb b 10 || eqb b 13) (eqb b 257) (or_from (eqb b 10) (eqb b 13) (ne_eqb b 10 feed) (ne_eqb b 13 return)) (ne_eqb b 257 (λ e. omega arith))

-- a line ending before something
pub inner_line : (codes : List ℕ) (ending : LineEnding) (rest : List ℕ) → codes ≡ line_ending_code ending ∷ content_codes rest → 0 < length rest
    → ends_inner_line codes ≡ true
inner_line codes ending [] e some = absurd (omega arith)
inner_line codes ending (b ∷ bs) e some =
    let more = codes_some b bs in
    ap ends_inner_line (e ∙ ap (λ cs. line_ending_code ending ∷ cs) more.2) ∙ ending_is_eol ending

pub last_line : (codes : List ℕ) (ending : LineEnding) (rest : List ℕ) → codes ≡ line_ending_code ending ∷ content_codes rest → length rest ≡ 0
    → ends_inner_line codes ≡ false
last_line codes ending [] e none = ap ends_inner_line e
last_line codes ending (b ∷ bs) e none = absurd (omega arith)

pub no_inner_line : (codes : List ℕ) → begins_with_eol codes ≡ false → ends_inner_line codes ≡ false
no_inner_line [] h = refl
no_inner_line (c ∷ []) h = refl
no_inner_line (c ∷ next ∷ cs) h = h

pub line_ends : (codes : List ℕ) (ending : LineEnding) (rest : List ℕ) → codes ≡ line_ending_code ending ∷ rest → ends_here codes ≡ true
line_ends codes ending rest e = ap ends_here e ∙ ending_is_eol ending

pub line_goes_on : (xs : List ℕ) → 0 < length xs → begins_with_eol (content_codes xs) ≡ false → ends_here (content_codes xs) ≡ false
line_goes_on [] some h = absurd (omega arith)
line_goes_on (b ∷ bs) some h =
    let more = codes_some b bs in
    ap ends_here more.2 ∙ ap begins_with_eol (sym more.2) ∙ h

pub here_or_not : (xs : List ℕ) (empty : Bool) → empty ≡ eqb (length xs) 0 → begins_with_eol (content_codes xs) ≡ false → empty ≡ ends_here (content_codes xs)
here_or_not [] empty e h = e
here_or_not (b ∷ bs) empty e h = e ∙ ne_eqb (length (b ∷ bs)) 0 (λ none. omega arith) ∙ sym (line_goes_on (b ∷ bs) (omega arith) h)
