-- Where texts begin that may have a check: paragraphs that are the first block of their item (GFM 5.3).
use Rattle.std.specs.Prelude.{◌≡◌, ◌↔◌, ℕ, ◌-◌, Bool, true, false, nat_lt, ◌||◌, if◌then◌else◌, List, [], ◌∷◌, ◌++◌, length, replicate, slice_get}
use Rattle.std.specs.Prelude.{slice_set}
use Rattle.std.specs.Prelude.{Option, None, Some, unwrap_or, Contains}
use Rattle.std.specs.Option.{option_to_list}
use Rattle.engine_events.specs.declared.event.Event.{Event}
use Rattle.engine_events.specs.declared.event.Kind.TheVariants.{Enter, Exit}
use Rattle.engine_events.specs.declared.event.Name.TheVariants as names
use Rattle.engine_events.specs.Events.{point_of}
use Rattle.engine_events.specs.Names.{same_name}
use Rattle.state_parser.specs.Events.{is_bound}

-- what may be between the prefix of an item and its first block
abbrev pub is_between : Event → Bool
is_between e =
    same_name e.name names.SpaceOrTab || (same_name e.name names.LineEnding || (same_name e.name names.BlankLineEnding
    || (same_name e.name names.BlockQuotePrefix || same_name e.name names.BlockQuoteMarker)))

-- the index at which the first block of these events begins, if it is a paragraph
abbrev pub first_paragraph : List Event → Option ℕ
first_paragraph [] = None
first_paragraph (e ∷ es) =
    if is_between e then first_paragraph es
    else (if is_bound Enter names.Paragraph e then Some (point_of e).index else None)

-- the indices at which paragraphs begin that are the first block of their item
abbrev pub start_indices : List Event → List ℕ
start_indices [] = []
start_indices (e ∷ es) =
    if is_bound Exit names.ListItemPrefix e then option_to_list (first_paragraph es) ++ start_indices es else start_indices es

-- whether an index is marked; those after the last aren't
abbrev pub is_marked : List Bool → ℕ → Bool
is_marked marks index = unwrap_or (slice_get marks index) false

-- these indices are marked, and no others
abbrev pub AreMarked : List ℕ → List Bool → Type 0
AreMarked indices marks = (i : ℕ) → (is_marked marks i ≡ true) ↔ Contains indices i

-- the marks with one more
abbrev pub marked : List Bool → ℕ → List Bool
marked marks index =
    if nat_lt index (length marks) then slice_set marks index true
    else (marks ++ replicate (index - length marks) false) ++ true ∷ []
