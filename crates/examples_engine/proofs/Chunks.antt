-- Chunks joined to chains, and the events that come in place of each.
use Rattle.std.specs.Prelude.{◌≡◌, ℕ, List, ◌∷◌, [], drop, false, map, Option, None, Some}
use Rattle.std.proofs.Common.{refl}
use Rattle.engine_events.specs.declared.event.Event.{Event}
use Rattle.engine_events.specs.declared.event.Kind.TheVariants.{Enter, Exit}
use Rattle.engine_events.specs.declared.event.Link.{Link}
use Rattle.engine_events.specs.declared.event.Name.TheVariants.{Data, Emphasis, SpaceOrTab, Strong}
use Rattle.engine_events.specs.Events.{link_of}
use Rattle.engine_edits.specs.Replacement.{events_after}
use Rattle.engine_chunks.specs.Chunks.{chunks, part_size}
use Rattle.engine_chunks.specs.Joins.{link_all, link_to}
use Rattle.engine_chunks.specs.Parts.{counts, with_division}
use Rattle.examples_engine.proofs.Given.{at, beside}

-- ---- each chunk gets its part

abbrev spaced : List Event
spaced = at Enter Data 0 (beside None (Some 4)) ∷ at Exit Data 2 None ∷ at Enter SpaceOrTab 2 None ∷ at Exit SpaceOrTab 3 None
    ∷ at Enter Data 3 (beside (Some 0) None) ∷ at Exit Data 5 None ∷ []

abbrev children : List Event
children = at Enter Emphasis 0 (beside None (Some 2)) ∷ at Exit Emphasis 2 None ∷ at Enter Strong 3 (beside (Some 0) None)
    ∷ at Exit Strong 4 None ∷ at Enter Strong 4 None ∷ at Exit Strong 5 None ∷ []

counted : counts spaced (chunks spaced 0) children 0 0 0 ≡ (4, 6)
counted = refl

divided : events_after (with_division spaced 0 children (0, 0) []) spaced
    ≡ at Enter Emphasis 0 (beside None (Some 4)) ∷ at Exit Emphasis 2 None ∷ at Enter SpaceOrTab 2 None ∷ at Exit SpaceOrTab 3 None
    ∷ at Enter Strong 3 (beside (Some 0) None) ∷ at Exit Strong 4 None ∷ at Enter Strong 4 None ∷ at Exit Strong 5 None ∷ []
divided = refl

-- ---- a part goes up to its chunk's end

abbrev chunk : List Event
chunk = at Enter Data 0 (beside None None) ∷ at Exit Data 2 None ∷ []

abbrev three : List Event
three = at Enter Emphasis 0 None ∷ at Exit Emphasis 2 None ∷ at Enter Strong 3 None ∷ []

to_its_end : part_size chunk 0 three ≡ 2
to_its_end = refl

from_second : part_size chunk 0 (drop 1 three) ≡ 1
from_second = refl

of_no_chunk : part_size chunk 1 three ≡ 0
of_no_chunk = refl

-- ---- chunks are joined

abbrev apart : List Event
apart = at Enter Data 0 (beside None None) ∷ at Exit Data 2 None ∷ at Enter Data 2 (beside None None) ∷ at Exit Data 3 None
    ∷ at Enter SpaceOrTab 3 None ∷ at Exit SpaceOrTab 4 None ∷ at Enter Data 4 (beside None None) ∷ at Exit Data 6 None ∷ []

abbrev joined : List Event
joined = link_to 2 6 (link_to 0 2 apart)

chain : chunks joined 0 ≡ 0 ∷ 2 ∷ 6 ∷ []
chain = refl

links : map link_of joined
    ≡ beside None (Some 2) ∷ None ∷ beside (Some 0) (Some 6) ∷ None ∷ None ∷ None ∷ beside (Some 2) None ∷ None ∷ []
links = refl

-- ---- chunks are joined to those that name them

abbrev named : List Event
named = at Enter Data 0 (beside None None) ∷ at Exit Data 1 None ∷ at Enter Data 1 (beside (Some 0) None) ∷ at Exit Data 2 None
    ∷ at Enter Data 2 (beside (Some 2) None) ∷ at Exit Data 3 None ∷ at Enter Data 3 (beside (Some 9) None) ∷ at Exit Data 4 None ∷ []

links_of_named : map link_of (link_all named)
    ≡ beside None (Some 2) ∷ None ∷ beside (Some 0) (Some 4) ∷ None ∷ beside (Some 2) None ∷ None ∷ beside (Some 9) None ∷ None ∷ []
links_of_named = refl
