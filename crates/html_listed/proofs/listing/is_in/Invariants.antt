use Rattle.std.proofs.Common.{◌≡◌, drop}
use Rattle.definition_html.specs.Listing.{is_in}
use Rattle.html_safe_page.specs.Views.{names_of}
use Rattle.html_listed.proofs.listing.is_in.Given as goal

-- the names that are left have the answer
abbrev pub invariant-loop-n : goal.invariant-loop-n
invariant-loop-n l = is_in (names_of (drop l.n-index l.names)) l.name ≡ is_in (names_of l.names) l.name
