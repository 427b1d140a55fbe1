-- The links of chunks.
use Rattle.std.specs.Prelude.{◌-◌, Bool, false, if◌then◌else◌, List, length, slice_get, Option, None, Some}
use denote.Enum.Bare.{sameb}
use Rattle.engine_events.specs.contracts.event.Kind.{the_type}
use Rattle.engine_events.specs.declared.event.Content.TheVariants as contents
use Rattle.engine_events.specs.declared.event.Event.{Event}
use Rattle.engine_events.specs.declared.event.Kind.TheVariants as kinds
use Rattle.engine_events.specs.declared.event.Link.{Link}
use Rattle.engine_events.specs.declared.event.Name.{Name as EventName}
use Rattle.markdown_engine.specs.Machine.{past_byte, with_enter, with_exit}
use Rattle.markdown_engine.specs.Reading.{Config}

-- whether an event is the end of one
abbrev pub ends_one : Option Event → Bool
ends_one None = false
ends_one (Some e) = sameb the_type e.kind kinds.Exit

-- a chunk that ends with the events so far is the one before
unfoldable pub link_after : List Event → Link
link_after es = let link : Link =
    record { previous = if ends_one (slice_get es (length es - 1)) then Some (length es - 2) else None; next = None; content = contents.String } in link

module _ {M : Type 0} where
  -- a chunk with none before
  abbrev pub first_link : Config M → Option Link
  first_link c = let link : Link = record { previous = None; next = None; content = contents.String } in Some link

  abbrev pub chunk_link : Config M → Option Link
  chunk_link c = Some (link_after c.events)

  -- within a string, which states tell one another, a part is a chunk
  abbrev pub part_link : Config M → Option Link
  part_link c = if c.tokenize_state.connect then chunk_link c else None

  -- an event round the byte, within a string a chunk
  abbrev pub with_part : EventName → Config M → Config M
  with_part name c = with_exit name (past_byte (with_enter name (part_link c) c))
