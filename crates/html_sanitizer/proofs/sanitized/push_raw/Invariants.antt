use Rattle.std.proofs.Common.{◌≡◌, length, true}
use denote.Text.{Utf8}
use denote.Shadow.{shadow}
use Rattle.inline_links.specs.Codes.{IsRest}
use Rattle.html_sanitizer.specs.Page.{page_state}
use Rattle.html_sanitizer.specs.Sanitized.{page_after, begins_with_mark}
use Rattle.html_sanitizer.proofs.sanitized.push_raw.Given as goal

-- the page so far, and what is left of the HTML, make the page of the HTML
abbrev pub invariant-loop-rest : goal.invariant-loop-rest
invariant-loop-rest g l = shadow (Utf8 l.rest)
    × (l.searches.content.now ≡ l.html)
    × IsRest l.html l.rest
    × ((length l.rest ≡ 0 → ⊥) → begins_with_mark l.rest ≡ true)
    × (page_after (g.T.Tables.reference_of l.tables) l.options (page_state l.page) l.rest
    ≡ page_after (g.T.Tables.reference_of l.tables) l.options (page_state l.fn.page) l.html)

abbrev pub decreases-loop-rest : goal.decreases-loop-rest
decreases-loop-rest g l = length l.rest
