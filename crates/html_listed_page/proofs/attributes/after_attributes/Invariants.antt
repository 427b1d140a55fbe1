use Rattle.std.proofs.Common.{◌≡◌, ◌↔◌, ◌++◌, ℕ, List, true, drop}
use denote.Text.{Utf8}
use denote.Shadow.{shadow}
use Rattle.html_safe_page.specs.Views.{names_of}
use Rattle.html_listed_page.specs.Tags.{HasAttributes, are_names}
use Rattle.html_listed_page.proofs.attributes.after_attributes.Given as goal

-- what is left has the attributes of the names that are left
abbrev pub invariant-loop-name : goal.invariant-loop-name
invariant-loop-name g l = shadow (Utf8 l.rest)
    × ((more : List (List ℕ)) → are_names (names_of l.names ++ more) ≡ true
    → HasAttributes (names_of l.names ++ more) l.text ↔ HasAttributes (names_of (drop l.name-index l.names) ++ more) l.rest)
