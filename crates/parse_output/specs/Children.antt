-- Which events may stand in which, by the names in the rows of the grammar: without their order, and without those that are required.
use Rattle.std.specs.Prelude.{◌≡◌, Bool, true, false, ◌||◌, ◌&&◌, List, [], ◌∷◌, ◌++◌, map}
use Rattle.std.specs.List.{list_all, list_any}
use Rattle.engine_events.specs.declared.event.Name.{Name}
use Rattle.engine_events.specs.declared.event.Event.{Event}
use Rattle.event_grammar.specs.declared.slot.Between.TheVariants.{Lines}
use Rattle.event_grammar.specs.declared.slot.Form.{Form}
use Rattle.event_grammar.specs.declared.slot.Form.TheVariants.{Plain, Ordered, OfImage, OfCall}
use Rattle.event_grammar.specs.declared.slot.Slot.{Slot}
use Rattle.event_grammar.specs.Grammar.{row, document_row, block_names, string_names, text_names, space_names, line_names}
use Rattle.event_grammar.specs.Slots.{has, between_of, stands_between}
use Rattle.event_grammar.specs.SlotViews.{child_of}
use Rattle.parse_output.specs.Open.{Mark, Entered, Exited, mark_of, then_mark}

-- whether a row has a place for a name
abbrev pub has_place : List Slot → Name → Bool
has_place [] name = false
has_place (slot ∷ slots) name = has (child_of slot) name || has_place slots name

-- the forms in which an event has different rows; it may hold what any of these has a place for
abbrev pub forms : List Form
forms = Plain ∷ Ordered ∷ OfImage ∷ OfCall ∷ []

-- whether an event may hold one of a name
unfoldable pub may_hold : Name → Name → Bool
may_hold own name = list_any (λ form. has_place (row own form) name) forms || stands_between (between_of (row own Plain) Lines own) name

-- whether one of a name may be entered in the innermost of these, or in the document
unfoldable pub may_enter : List Mark → Name → Bool
may_enter [] name = has_place document_row name || stands_between Lines name
may_enter (Entered own ∷ marks) name = may_hold own name
may_enter (Exited own ∷ marks) name = false

abbrev pub may_follow : List Mark → Mark → Bool
may_follow marks (Entered name) = may_enter marks name
may_follow marks (Exited name) = true

-- whether each event that is entered may stand in the innermost that is open there
unfoldable pub are_children : List Mark → List Mark → Bool
are_children marks [] = true
are_children marks (m ∷ ms) = may_follow marks m && are_children (then_mark marks m) ms

abbrev pub HaveChildren : List Event → Type 0
HaveChildren events = are_children [] (map mark_of events) ≡ true

-- ---- several names at once

-- what stands where lines end, beside the children of a row
abbrev pub between_names : List Name
between_names = space_names ++ line_names

-- whether lines may end in an event, with the prefixes of quotes on the next ones; and whether a string, a text or blocks may stand there, too
unfoldable pub has_lines : Name → Bool
has_lines own = list_all (may_hold own) between_names

unfoldable pub has_string : Name → Bool
has_string own = list_all (may_hold own) (between_names ++ string_names)

unfoldable pub has_text : Name → Bool
has_text own = list_all (may_hold own) (between_names ++ text_names)

-- the same in the innermost that is open
unfoldable pub holds_lines : List Mark → Bool
holds_lines marks = list_all (may_enter marks) between_names

unfoldable pub holds_string : List Mark → Bool
holds_string marks = list_all (may_enter marks) (between_names ++ string_names)

unfoldable pub holds_text : List Mark → Bool
holds_text marks = list_all (may_enter marks) (between_names ++ text_names)

unfoldable pub holds_blocks : List Mark → Bool
holds_blocks marks = list_all (may_enter marks) (between_names ++ block_names)
