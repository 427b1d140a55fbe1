-- Runs of events that are skipped.
use Rattle.std.specs.Prelude.{ℕ, ◌+◌, ◌-◌, ◌==◌, ◌&&◌, Bool, true, false, not, nat_lt, if◌then◌else◌, List, [], ◌∷◌, length, take, drop, reverse}
use Rattle.std.specs.List.{position_or_len}
use Rattle.engine_events.specs.declared.event.Event.{Event}
use Rattle.engine_events.specs.declared.event.Name.{Name}
use Rattle.engine_events.specs.declared.event.Kind.{Kind}
use Rattle.engine_events.specs.declared.event.Kind.TheVariants.{Enter, Exit}
use Rattle.engine_events.specs.Names.{is_listed}

abbrev pub opens_as : Bool → Kind → Bool
opens_as forward Enter = forward
opens_as forward Exit = not forward

-- whether an event opens what it names: forward an enter, backward an exit
abbrev pub opens : Bool → Event → Bool
opens forward e = opens_as forward e.kind

-- whether an event has a listed name
abbrev pub has_name : List Name → Event → Bool
has_name names e = is_listed names e.name

-- how many events the whole events with listed names have that stand first, one after another; so many are pending in the one that is open, so many are open
abbrev pub whole_from : Bool → List Name → ℕ → ℕ → List Event → ℕ
whole_from forward names pending depth [] = 0
whole_from forward names pending depth (e ∷ es) =
    if depth == 0 then (if opens forward e && has_name names e then whole_from forward names (pending + 1) 1 es else 0)
    else if opens forward e then whole_from forward names (pending + 1) (depth + 1) es
    else if depth == 1 then (pending + 1) + whole_from forward names 0 0 es
    else whole_from forward names (pending + 1) (depth - 1) es

abbrev pub whole : List Name → List Event → ℕ
whole names events = whole_from true names 0 0 events

-- the index before the whole events with listed names that end at an index, not below 0
abbrev pub whole_back : List Name → ℕ → List Event → ℕ
whole_back names index events =
    if nat_lt index (length events) then index - whole_from false names 0 0 (reverse (take (index + 1) events)) else index

-- the first index from an index on whose event has a listed name, or the number of events
abbrev pub first_named : List Name → ℕ → List Event → ℕ
first_named names index events = index + position_or_len (has_name names) (drop index events)

-- the last index up to an index whose event has a listed name
abbrev pub last_named : List Name → ℕ → List Event → ℕ
last_named names index events =
    if nat_lt index (length events) then index - position_or_len (has_name names) (reverse (take (index + 1) events)) else index
