-- Bytes without tabs, and the codes of a line that has none.
use Rattle.std.proofs.Common.{◌≡◌, ℕ, ◌+◌, List, [], ◌∷◌, ◌++◌, false, eqb, refl, ap, ◌∙◌, arith}
use Rattle.std.specs.Prelude.{◌≢◌, replicate}
use Rattle.std.specs.List.{All}
use Rattle.std.proofs.lemmas.Bool.{cond-false, cond_both, ne_eqb, eqb-false}
use Rattle.std.proofs.lemmas.List.Elements.{All-nil, All-cons, All-tail}
use Rattle.definition_text.specs.Lines.{TextLine, lines}
use Rattle.definition_text.specs.Columns.{codes_from, tab_column, columns_after_tab}
use Rattle.definition_text.proofs.Each.{Each}
use Rattle.definition_page.proofs.LineReads.{LinesGood, MayBegin, lines_good}
use Rattle.laws_quote.specs.Quoted.{is_last_of_ending, with_mark, marked_after_endings, quote_lines}

-- no byte is a tab
abbrev pub Tabless : List ℕ → Type 0
Tabless [] = Unit {0}
Tabless (b ∷ bs) = (eqb b 9 ≡ false) × Tabless bs

pub Tabless-from_All : (bs : List ℕ) → All (λ b. b ≢ 9) bs → Tabless bs
Tabless-from_All [] p = tt
Tabless-from_All (b ∷ bs) p = (ne_eqb b 9 (p 0 b (omega arith)), Tabless-from_All bs (All-tail (λ x. x ≢ 9) b bs p))

pub Tabless-to_All : (bs : List ℕ) → Tabless bs → All (λ b. b ≢ 9) bs
Tabless-to_All [] p = All-nil (λ b. b ≢ 9)
Tabless-to_All (b ∷ bs) p = All-cons (λ x. x ≢ 9) b bs (eqb-false b 9 p.0) (Tabless-to_All bs p.1)

-- the codes of such bytes are the bytes
pub codes_from-Tabless : (column : ℕ) (bs : List ℕ) → Tabless bs → codes_from column bs ≡ bs
codes_from-Tabless column [] p = refl
codes_from-Tabless column (b ∷ bs) p =
    let n = columns_after_tab column in
    cond-false (eqb b 9) (9 ∷ (replicate n tab_column ++ codes_from (column + 1 + n) bs)) (b ∷ codes_from (column + 1) bs) p.0
    ∙ ap (λ codes. b ∷ codes) (codes_from-Tabless (column + 1) bs p.1)

-- ---- the lines of such a text

-- no line holds a tab
abbrev pub LinesTabless : List TextLine → Type 0
LinesTabless ls = LinesGood Tabless ls

each_tabless : (text : List ℕ) → Tabless text → Each (MayBegin Tabless) text
each_tabless [] p = tt
each_tabless (b ∷ bs) p = (λ _ more q. (p.0, q), each_tabless bs p.1)

pub lines_tabless : (text : List ℕ) → Tabless text → LinesTabless (lines text)
lines_tabless text p = lines_good Tabless tt text (each_tabless text p)

-- ---- such a text with `> ` before every line has no tab either

marked_tabless : (bs : List ℕ) → Tabless bs → Tabless (with_mark bs)
marked_tabless [] p = tt
marked_tabless (b ∷ bs) p = (refl, (refl, p))

marked_after_endings_tabless : (text : List ℕ) → Tabless text → Tabless (marked_after_endings text)
marked_after_endings_tabless [] p = tt
marked_after_endings_tabless (b ∷ bs) p =
    let more = marked_after_endings bs in
    let q = marked_after_endings_tabless bs p.1 in
    (p.0, cond_both (is_last_of_ending b bs) (with_mark more) more Tabless (λ _. marked_tabless more q) (λ _. q))

pub quoted_tabless : (text : List ℕ) → Tabless text → Tabless (quote_lines text)
quoted_tabless text p = marked_tabless (marked_after_endings text) (marked_after_endings_tabless text p)
