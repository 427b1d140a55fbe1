use Rattle.std.proofs.Common.{◌≡◌, codes, length, true}
use denote.Text.{Utf8}
use denote.Shadow.{shadow}
use Rattle.definition_text.specs.Bytes.{begins_with}
use Rattle.definition_html.specs.State.{nothing_open}
use Rattle.html_sanitizer.specs.Elements.{parts_after}
use Rattle.html_sanitizer.specs.Page.{page_state}
use Rattle.html_sanitizer.proofs.listed.listed_html.Given as goal

-- what is printed, and what is left of the page, make the whole
abbrev pub invariant-loop-rest : goal.invariant-loop-rest
invariant-loop-rest g l = shadow (Utf8 l.rest)
    × ((length l.rest ≡ 0 → ⊥) → begins_with (codes "<") l.rest ≡ true)
    × (parts_after (g.T.Tables.reference_of l.tables) l.options (page_state l.out) l.rest
    ≡ parts_after (g.T.Tables.reference_of l.tables) l.options nothing_open l.page)

abbrev pub decreases-loop-rest : goal.decreases-loop-rest
decreases-loop-rest g l = length l.rest
