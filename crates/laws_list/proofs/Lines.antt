-- The lines of a text with `+ ` before its first line and two spaces before every other.
use Rattle.std.proofs.Common.{◌≡◌, List, [], ◌∷◌, refl, ap, ◌∙◌}
use Rattle.definition_text.specs.Lines.{TextLine, in_first_line, lines}
use Rattle.laws_quote.proofs.Lines.{HasLine, lines_some, IsPair, later_paired, later}
use Rattle.laws_list.specs.Laws.{listed_lines, ListedLinesLaw}

two_spaces : IsPair 32 32
two_spaces = (λ bs. refl, λ bs ls. refl)

-- the first one with `+ `
first_listed : (ls : List TextLine) → HasLine ls → in_first_line 43 (in_first_line 32 (later_paired 32 32 two_spaces ls)) ≡ listed_lines ls
first_listed [] h = absurd h
first_listed (line ∷ ls) h = refl

pub listed_lines_law : ListedLinesLaw
listed_lines_law [] = refl
listed_lines_law (b ∷ bs) =
    ap (λ ls. in_first_line 43 (in_first_line 32 ls)) (later 32 32 two_spaces (b ∷ bs)) ∙ first_listed (lines (b ∷ bs)) (lines_some b bs)
