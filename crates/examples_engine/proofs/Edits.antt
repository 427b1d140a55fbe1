-- Edits of a list of events, and links that follow them.
use Rattle.std.specs.Prelude.{◌≡◌, ℕ, List, ◌∷◌, [], ◌++◌, map, replicate, true, false, Option, None, Some}
use Rattle.std.proofs.Common.{refl}
use Rattle.engine_events.specs.declared.event.Event.{Event}
use Rattle.engine_events.specs.declared.event.Kind.TheVariants.{Enter}
use Rattle.engine_events.specs.declared.event.Name.TheVariants.{Data}
use Rattle.engine_edits.specs.Edits.{EditAt, edit_at, with_edit}
use Rattle.engine_edits.specs.Replacement.{events_after, rising, with_new_links}
use Rattle.examples_engine.proofs.Given.{at, beside}

-- a chunk at an index, between two others
abbrev chunk : ℕ → Option ℕ → Option ℕ → Event
chunk index previous next = at Enter Data index (beside previous next)

abbrev alone : ℕ → Event
alone index = chunk index None None

-- ---- edits of one place are one

abbrev three : List EditAt
three = with_edit true 1 0 (alone 12 ∷ []) (with_edit false 1 1 (alone 11 ∷ []) (with_edit false 1 2 (alone 10 ∷ []) []))

merged : three ≡ edit_at 1 3 (alone 12 ∷ alone 10 ∷ alone 11 ∷ []) ∷ []
merged = refl

-- each between those two before and after it
abbrev six : List Event
six = chunk 0 None (Some 2) ∷ chunk 1 None (Some 3) ∷ chunk 2 (Some 0) (Some 4) ∷ chunk 3 (Some 1) (Some 5)
    ∷ chunk 4 (Some 2) (Some 6) ∷ chunk 5 (Some 3) (Some 7) ∷ []

edited : events_after three six
    ≡ chunk 0 None None ∷ alone 12 ∷ alone 10 ∷ alone 11 ∷ chunk 4 None None ∷ chunk 5 None None ∷ []
edited = refl

-- ---- events at even places go, by edits from the front or from the back

abbrev forward : List EditAt
forward = with_edit false 4 1 [] (with_edit false 2 1 [] (with_edit false 0 1 [] []))

abbrev backward : List EditAt
backward = with_edit false 0 1 [] (with_edit false 2 1 [] (with_edit false 4 1 [] []))

sorted : forward ≡ backward
sorted = refl

odd_ones : events_after forward six ≡ chunk 1 None (Some 1) ∷ chunk 3 (Some 0) (Some 2) ∷ chunk 5 (Some 1) None ∷ []
odd_ones = refl

-- ---- links follow their events

abbrev places : List (Option ℕ)
places = rising 3 2 ++ replicate 1 None

two_and_none : places ≡ Some 3 ∷ Some 4 ∷ None ∷ []
two_and_none = refl

relinked : map (with_new_links places) (chunk 0 (Some 1) (Some 2) ∷ chunk 1 None (Some 3) ∷ [])
    ≡ chunk 0 (Some 4) None ∷ chunk 1 None None ∷ []
relinked = refl
