use Rattle.std.proofs.Common.{◌≡◌, drop, map}
use Rattle.definition_html.specs.Listing.{parents_by}
use Rattle.html_sanitizer.specs.Listing.{row_of}
use Rattle.html_sanitizer.proofs.listing.parents_by.Given as goal

-- the rows that are left have the answer
abbrev pub invariant-loop-row : goal.invariant-loop-row
invariant-loop-row l = parents_by (map row_of (drop l.row-index l.rows)) l.name ≡ parents_by (map row_of l.rows) l.name
