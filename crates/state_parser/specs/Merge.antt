-- The events of a document, of the flow in it, and of its containers, in one list.
use Rattle.std.specs.Prelude.{◌≡◌, ℕ, zero, suc, ◌+◌, ◌-◌, Bool, false, not, nat_le, nat_lt, ◌&&◌, ◌||◌, if◌then◌else◌, List, [], ◌∷◌, ◌++◌, length}
use Rattle.std.specs.Prelude.{slice_get, Option, None, Some, unwrap_or}
use Rattle.std.specs.List.{fold}
use denote.Enum.Bare.{sameb}
use Rattle.engine_events.specs.contracts.event.Content as content_enum
use Rattle.engine_events.specs.contracts.event.Kind as kind_enum
use Rattle.engine_events.specs.declared.event.Content.TheVariants.{Flow}
use Rattle.engine_events.specs.declared.event.Event.{Event}
use Rattle.engine_events.specs.declared.event.Kind.TheVariants.{Enter}
use Rattle.engine_events.specs.declared.event.Link.{Link}
use Rattle.engine_events.specs.declared.event.Name.{Name}
use Rattle.engine_events.specs.declared.event.Name.TheVariants as names
use Rattle.engine_events.specs.declared.place.Point.{Point}
use Rattle.engine_events.specs.Events.{event, link_of}
use Rattle.engine_events.specs.Names.{same_name}
use Rattle.engine_states.specs.declared.container.Container.{Container}
use Rattle.engine_states.specs.declared.container.Container.TheVariants as containers
use Rattle.markdown_engine.specs.Order.{AreInOrder, IsBalanced}
use Rattle.state_reader.specs.declared.span.Span.{Span}
use Rattle.state_parser.specs.Events.{is_before, is_ending_at, is_white_at, point_at}
use Rattle.state_parser.specs.LastLines.{AreLastLines, filled_lines, is_last_blank}
use Rattle.state_parser.specs.Merged.{Step, line_left, nothing, pushed, step}

abbrev pub steps_of : Option Event → List Step
steps_of None = []
steps_of (Some e) = step None e ∷ []

-- ---- flow

abbrev pub is_flow_link : Option Link → Bool
is_flow_link None = false
is_flow_link (Some l) = sameb content_enum.the_type l.content Flow

abbrev pub is_flow : Option Event → Bool
is_flow None = false
is_flow (Some e) = is_flow_link (link_of e)

-- the event at an index begins a line of flow
abbrev pub is_flow_at : List Event → ℕ → Bool
is_flow_at document i = is_flow (slice_get document i)

-- or it begins one, or ends it
abbrev pub is_chunk : List Event → ℕ → Bool
is_chunk document i = is_flow_at document i || is_flow_at document (i - 1)

-- the start of a block, moved to a place
abbrev pub moved_start : Option Event → Point → Option Event
moved_start None p = None
moved_start (Some e) p = Some (event Enter e.name p (link_of e))

module _ (flow : List Event) where
  -- The event at an index is of a line that ends at a place. What ends after the line's ending is of the next line: the marks of containers come first.
  abbrev pub is_of_line : Point → ℕ → Bool
  is_of_line end i =
      is_before (point_at flow i) end || (not (is_before end (point_at flow i)) && (is_ending_at flow i || not (is_ending_at flow (i - 1))))

  -- the index of the first event from an index on, with so many left, that isn't of that line
  abbrev pub line_end : Point → ℕ → ℕ → ℕ
  line_end end zero i = i
  line_end end (suc n) i = if is_of_line end i then line_end end n (i + 1) else i

  abbrev pub is_indented_by : Option Event → ℕ → Bool
  is_indented_by None i = false
  is_indented_by (Some e) i = (sameb kind_enum.the_type e.kind Enter
      && (same_name e.name names.CodeIndented || same_name e.name names.CodeFencedFence || same_name e.name names.MathFlowFence))
      && is_white_at flow Enter (i + 1)

  -- the event at an index begins a block with white space at its start, that belongs before it
  abbrev pub is_indented : ℕ → Bool
  is_indented i = is_indented_by (slice_get flow i) i

  -- the start of the block whose white space ends at an index
  abbrev pub block_start : ℕ → Option Event
  block_start i = if nat_lt i 2 || not (is_indented (i - 2)) then None else moved_start (slice_get flow (i - 2)) (point_at flow i)

  -- the event at an index, with white space that a block begins with before it
  abbrev pub flow_steps : ℕ → List Step
  flow_steps i = if is_indented i then [] else steps_of (slice_get flow i) ++ steps_of (block_start i)

  -- so many from an index on
  abbrev pub flow_part : ℕ → ℕ → List Step
  flow_part zero i = []
  flow_part (suc n) i = flow_steps i ++ flow_part n (i + 1)

-- ---- containers

abbrev pub name_of : Container → Name
name_of containers.BlockQuote = names.BlockQuote
name_of containers.ListItem = names.ListItem
name_of containers.GfmFootnoteDefinition = names.GfmFootnoteDefinition

-- a container begins before the event at an index; white space before its mark is outside
abbrev pub begins : List Event → Span → ℕ → Bool
begins document s at = nat_le (s.start + (if is_white_at document Enter s.start then 2 else 0)) at

abbrev pub line_at : List ℕ → ℕ → ℕ
line_at last i = unwrap_or (slice_get last i) 0

-- ---- all steps

module _ (document : List Event) (spans : List Span) where
  abbrev pub begun : Option Span → ℕ → Option Event
  begun None at = None
  begun (Some s) at = if begins document s at then Some (event Enter (name_of s.kind) (point_at document at) None) else None

  -- the start of the next container, if it begins before the event at an index
  abbrev pub container_start : ℕ → ℕ → Option Event
  container_start next at = begun (slice_get spans next) at

abbrev pub container_steps : ℕ → Option Event → List Step
container_steps line None = []
container_steps line (Some e) = step (Some line) e ∷ []

-- the next container begins, if it begins before the event at an index
abbrev pub span_steps : List Event → List Span → List ℕ → ℕ → ℕ → List Step
span_steps document spans last next at = container_steps (line_at last next) (container_start document spans next at)

module _ (document flow : List Event) where
  -- up to which index flow comes before the event at an index
  abbrev pub flow_end : ℕ → ℕ → ℕ
  flow_end next at =
      if is_flow_at document at || not (is_flow_at document (at - 1)) then next else line_end flow (point_at document at) (length flow - next) next

  -- the event at an index, or the flow in its place
  abbrev pub event_steps : ℕ → ℕ → List Step
  event_steps next at = flow_part flow (flow_end next at - next) next ++ (if is_chunk document at then [] else steps_of (slice_get document at))

module _ (document flow : List Event) (spans : List Span) (last : List ℕ) where
  -- what the document adds with so many events from an index on, where the next container and the next event of flow have these indices
  abbrev pub steps : ℕ → ℕ → ℕ → ℕ → List Step
  steps zero at span next = flow_part flow (length flow - next) next
  steps (suc n) at span next =
      span_steps document spans last span at ++ (event_steps document flow next at
      ++ steps n (at + 1) (span + length (span_steps document spans last span at)) (flow_end document flow next at))

  -- all of it, and the end of what is open at the text's end, which may be that of a blank line
  abbrev pub put_together : Bool → Point → List Event
  put_together blank end = (line_left 0 blank end (fold pushed nothing (steps (length document) 0 0 0))).events

  abbrev pub merged_events : Point → List Event
  merged_events end = put_together (is_last_blank (filled_lines flow end) end) end

-- Merged are the events of a document, with those of flow in the place of their chunks, and its containers, which end with their last lines. The list is
-- balanced and in order.
pub record IsMerged (document flow : List Event) (spans : List Span) (end : Point) (events : List Event) : Type 0 where
  pub last : List ℕ
  pub lines : AreLastLines (filled_lines flow end) spans last
  pub list : events ≡ merged_events document flow spans last end
  pub balanced : IsBalanced events
  pub order : AreInOrder events
