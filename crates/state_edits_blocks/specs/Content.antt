-- Content: the lines of a paragraph become one chain, which is read as definitions and a paragraph (CommonMark 4.7 and 4.8).
--
--     content ::= line *( line_ending *prefix line )
--
-- Flow reads each line as a chunk. The exit of a chunk moves over the line ending that follows, so that the chain's text has it.
use Rattle.std.specs.Prelude.{ℕ, ◌+◌, zero, suc, Bool, false, not, nat_le, ◌&&◌, if◌then◌else◌, List, [], length, drop, set, slice_get, Option, None, Some}
use Rattle.std.specs.List.{position_or_len}
use Rattle.engine_events.specs.declared.event.Event.{Event}
use Rattle.engine_events.specs.declared.event.Kind.TheVariants.{Enter}
use Rattle.engine_events.specs.declared.event.Name.TheVariants as names
use Rattle.engine_edits.specs.Edits.{EditAt, with_edit}
use Rattle.engine_edits.specs.Replacement.{IsOrdered, events_after}
use Rattle.engine_chunks.specs.Joins.{link_to}
use Rattle.state_edits_data.specs.Each.{exit_event, is_bound, place_at}
use Rattle.state_edits_blocks.specs.GfmTable.{is_prefix}

abbrev pub is_no_prefix : Event → Bool
is_no_prefix e = not (is_prefix e)

module _ (events : List Event) where
  -- a line of content begins at an index, and a line ending is right after it
  abbrev pub is_ended_line : ℕ → Bool
  is_ended_line i = nat_le (i + 4) (length events)
      && (is_bound Enter names.Content (slice_get events i) && is_bound Enter names.LineEnding (slice_get events (i + 2)))

  -- the first event from an index on that isn't of the prefix of a line
  abbrev pub past_prefix : ℕ → ℕ
  past_prefix i = i + position_or_len is_no_prefix (drop i events)

  -- the line of content that begins at an index
  abbrev pub line_at : ℕ → Option ℕ
  line_at i = if is_bound Enter names.Content (slice_get events i) then Some i else None

  -- the line of content that goes on with the one at an index: behind its line ending, and the prefix of the next line
  abbrev pub next_line : ℕ → Option ℕ
  next_line i = if is_ended_line i then line_at (past_prefix (i + 4)) else None

-- two lines are one chain: they name one another, and the first ends where its line ending does
abbrev pub lines_linked : ℕ → ℕ → List Event → List Event
lines_linked i next events = link_to i next (set events (i + 1) (exit_event names.Content (place_at events (i + 3))))

abbrev pub linked_if : Option ℕ → ℕ → List Event → List Event
linked_if None i events = events
linked_if (Some next) i events = lines_linked i next events

-- the line at an index is joined with the next one, if there is one
abbrev pub linked_at : List Event → ℕ → List Event
linked_at events i = linked_if (next_line events i) i events

-- the line ending between two lines goes
abbrev pub ending_if : Option ℕ → ℕ → List EditAt → List EditAt
ending_if None i edits = edits
ending_if (Some next) i edits = with_edit false (i + 2) 2 [] edits

abbrev pub ending_edit : List Event → ℕ → List EditAt → List EditAt
ending_edit events i edits = ending_if (next_line events i) i edits

module _ (events : List Event) where
  -- the events with the lines before an index joined with those after them
  unfoldable pub linked : ℕ → List Event
  linked zero = events
  linked (suc i) = linked_at (linked i) i

  -- the edits that remove the line endings between them
  unfoldable pub ending_edits : ℕ → List EditAt
  ending_edits zero = []
  ending_edits (suc i) = ending_edit (linked i) i (ending_edits i)

  -- the line endings can be removed: no two of them overlap
  abbrev pub CanJoin : Type 0
  CanJoin = IsOrdered 0 (ending_edits (length events)) (length (linked (length events)))

  -- the events with the lines of each paragraph as one chain
  abbrev pub joined : List Event
  joined = events_after (ending_edits (length events)) (linked (length events))
