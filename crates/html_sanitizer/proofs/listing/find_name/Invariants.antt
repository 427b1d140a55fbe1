use Rattle.std.proofs.Common.{◌≡◌, drop}
use Rattle.html_safe_page.specs.Views.{names_of}
use Rattle.html_sanitizer.specs.Listing.{found_name}
use Rattle.html_sanitizer.proofs.listing.find_name.Given as goal

-- the names that are left have the answer
abbrev pub invariant-loop-name : goal.invariant-loop-name
invariant-loop-name l = found_name (names_of (drop l.name-index l.names)) l.written ≡ found_name (names_of l.names) l.written
