-- Which elements stand in which, in a page that is made of any HTML. The names of the elements around a place are given, the innermost first.
use Rattle.std.specs.Prelude.{ℕ, Bool, true, false, not, if◌then◌else◌, ◌&&◌, nat_lt, List, [], ◌∷◌, length}
use Rattle.std.specs.List.{list_any}
use Rattle.html_safe_page.specs.SafePage.{Items, End, Letter, Void, Element}
use Rattle.definition_html.specs.Listing.{is_in, is_part, parents_of, heading_names, deepest}
use Rattle.definition_html.specs.State.{begins_with_frame}

-- a place is right in an element of one of these names
abbrev pub is_right_in : List (List ℕ) → List (List ℕ) → Bool
is_right_in wanted [] = false
is_right_in wanted (name ∷ names) = is_in wanted name

-- a part stands right in its parent; any other element neither right in a table, its section or its row nor, as a heading, in a heading
abbrev pub may_stand : List (List ℕ) → List ℕ → Bool
may_stand names name =
    if is_part name then is_right_in (parents_of name) names
    else not (begins_with_frame names) && not (is_in heading_names name && list_any (is_in heading_names) names)

-- the same, and not too deep
abbrev pub may_begin : List (List ℕ) → List ℕ → Bool
may_begin names name = nat_lt (length names) deepest && may_stand names name

-- each element of items may begin where it is, and those that hold nothing don't stand right in a table, its section or its row
abbrev pub stand : List (List ℕ) → Items → Bool
stand names End = true
stand names (Letter b items) = stand names items
stand names (Void tag items) = not (begins_with_frame names) && stand names items
stand names (Element tag inside items) = may_begin names tag.name && (stand (tag.name ∷ names) inside && stand names items)
