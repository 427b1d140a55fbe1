-- The texts of ATX headings (CommonMark 4.2).
--
--     heading_atx ::= 1*6'#' [ 1*space_or_tab text [ 1*space_or_tab 1*'#' ] ]
--
-- After the opening sequence states read data and further sequences. If the last of these is a sequence, it closes the heading. The text is what is before it,
-- such as `a #` in `# a # ##`.
use Rattle.std.specs.Prelude.{ℕ, zero, suc, ◌-◌, Bool, true, false, not, ◌&&◌, ◌||◌, if◌then◌else◌, is_none, List, [], ◌∷◌, slice_get}
use Rattle.std.specs.Prelude.{Option, None, Some}
use Rattle.engine_events.specs.declared.event.Content.TheVariants as contents
use Rattle.engine_events.specs.declared.event.Event.{Event}
use Rattle.engine_events.specs.declared.event.Kind.TheVariants.{Enter, Exit}
use Rattle.engine_events.specs.declared.event.Name.TheVariants as names
use Rattle.engine_events.specs.declared.place.Point.{Point}
use Rattle.engine_events.specs.Events.{event}
use Rattle.engine_events.specs.Names.{same_name}
use Rattle.engine_edits.specs.Edits.{EditAt, with_edit}
use Rattle.state_table.specs.BlockWords.{chunk_of}
use Rattle.state_edits_data.specs.Each.{enter_event, exit_event, is_bound, is_event, later, place_at}
use Rattle.state_edits_blocks.specs.declared.heading_atx.Heading.{Heading}

-- nothing is known: no heading is open, or one begins
abbrev pub nothing : Heading
nothing = record { is_opened = false; first = None; last = None; closing = None }

-- a heading begins, or ends
abbrev pub bounds_heading : Event → Bool
bounds_heading e = same_name e.name names.HeadingAtx

-- the text of a heading may begin
abbrev pub begins_text : Event → Bool
begins_text e = is_event Enter names.Data e || is_event Enter names.HeadingAtxSequence e

-- after a sequence that ends at an index: one before it is text
abbrev pub past_sequence : Heading → ℕ → Heading
past_sequence h i = if h.is_opened then record h { last = if is_none h.closing then h.last else h.closing; closing = Some i } else record h { is_opened = true }

-- what is known of a heading after an event that has an index
abbrev pub seen : Heading → Event → ℕ → Heading
seen h e i =
    if bounds_heading e then nothing
    else (if is_event Exit names.HeadingAtxSequence e then past_sequence h i
    else (if not h.is_opened then h
    else (if is_event Exit names.Data e then record h { last = Some i; closing = None }
    else (if is_none h.first && begins_text e then record h { first = Some i } else h))))

abbrev pub seen_if : Heading → ℕ → Option Event → Heading
seen_if h i None = h
seen_if h i (Some e) = seen h e i

-- the events of a text between two places: one chunk, which is read later
abbrev pub text_events : Point → Point → List Event
text_events from to =
    enter_event names.HeadingAtxText from ∷ event Enter names.Data from (Some (chunk_of contents.Text)) ∷ exit_event names.Data to
    ∷ exit_event names.HeadingAtxText to ∷ []

module _ (events : List Event) where
  abbrev pub seen_at : Heading → ℕ → Heading
  seen_at h i = seen_if h i (slice_get events i)

  abbrev pub text_between : Option ℕ → Option ℕ → List EditAt → List EditAt
  text_between None last edits = edits
  text_between (Some first) None edits = edits
  text_between (Some first) (Some last) edits =
      with_edit false first (later 1 last - first) (text_events (place_at events first) (place_at events last)) edits

  -- the text of a heading, if it has one
  abbrev pub text_edit : Heading → List EditAt → List EditAt
  text_edit h edits = text_between h.first h.last edits

  -- what an index adds to the edits: where a heading ends, its text
  abbrev pub heading_edit : Heading → ℕ → List EditAt → List EditAt
  heading_edit h i edits = if is_bound Exit names.HeadingAtx (slice_get events i) then text_edit h edits else edits

  -- what is known of the heading that is open before an index
  unfoldable pub known : ℕ → Heading
  known zero = nothing
  known (suc i) = seen_at (known i) i

  -- the edits that make the texts of headings, up to an index
  unfoldable pub atx_edits : ℕ → List EditAt
  atx_edits zero = []
  atx_edits (suc i) = heading_edit (known i) i (atx_edits i)
