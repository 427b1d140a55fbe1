use Rattle.std.proofs.Common.{◌↔◌, length}
use denote.Text.{Utf8}
use denote.Shadow.{shadow}
use Rattle.html_safe_page.specs.Views.{open_names}
use Rattle.html_listed.specs.ListedPage.{IsListedPage}
use Rattle.html_listed_page.specs.Rest.{IsRest}
use Rattle.html_listed_page.proofs.page.is_listed_page.Given as goal

-- what is left may follow where these elements are open, if the page is a listed page
abbrev pub invariant-loop-letters : goal.invariant-loop-letters
invariant-loop-letters g l = shadow (Utf8 l.rest) × (IsRest l.fn.table (open_names l.names.items) l.rest ↔ IsListedPage l.fn.table l.fn.page)

abbrev pub decreases-loop-letters : goal.decreases-loop-letters
decreases-loop-letters g l = length l.rest
