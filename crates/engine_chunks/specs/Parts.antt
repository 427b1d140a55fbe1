-- Each chunk of a chain replaced by the child events up to and at its end that come after the end of the chunk before.
use Rattle.std.specs.Prelude.{ℕ, ◌+◌, ◌-◌, false, List, [], ◌∷◌, ◌++◌, map, take, drop}
use Rattle.engine_events.specs.declared.event.Event.{Event}
use Rattle.engine_edits.specs.Edits.{EditAt, with_edit}
use Rattle.engine_edits.specs.Replacement.{Places, rising, with_new_links}
use Rattle.engine_chunks.specs.Chunks.{chunks, part_size}

-- where the child events from `from` on stand afterwards: so many events go and come before
abbrev pub places_of : List Event → List ℕ → List Event → ℕ → ℕ → ℕ → Places
places_of events [] children from removed added = []
places_of events (k ∷ ks) children from removed added =
    let size = part_size events k (drop from children) in
    rising ((k - removed) + added) size ++ places_of events ks children (from + size) (removed + 2) (added + size)

-- how many events go and come, with those of the chain: of each chunk its enter and its exit go
abbrev pub counts : List Event → List ℕ → List Event → ℕ → ℕ → ℕ → ℕ × ℕ
counts events [] children from removed added = (removed, added)
counts events (k ∷ ks) children from removed added =
    let size = part_size events k (drop from children) in counts events ks children (from + size) (removed + 2) (added + size)

-- the edits with one for each chunk, in place of which its part of the child events comes
abbrev pub with_division_at : List Event → List ℕ → List Event → Places → ℕ → List EditAt → List EditAt
with_division_at events [] children ps from edits = edits
with_division_at events (k ∷ ks) children ps from edits =
    let size = part_size events k (drop from children) in
    with_division_at events ks children ps (from + size) (with_edit false k 2 (map (with_new_links ps) (take size (drop from children))) edits)

-- the edits with those of a chain, links of child events to where they stand afterwards
abbrev pub with_division : List Event → ℕ → List Event → ℕ × ℕ → List EditAt → List EditAt
with_division events k children acc edits =
    with_division_at events (chunks events k) children (places_of events (chunks events k) children 0 acc.0 acc.1) 0 edits
