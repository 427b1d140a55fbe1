-- Links, images and calls in place of the labels that were found, and data in place of starts that found no end.
use Rattle.std.specs.Prelude.{ℕ, ◌-◌, true, false, nat_lt, if◌then◌else◌, List, [], ◌∷◌}
use Rattle.std.specs.List.{fold}
use denote.Enum.Bare.{sameb}
use Rattle.engine_states.specs.contracts.label.LabelKind.{the_type}
use Rattle.engine_events.specs.declared.event.Event.{Event}
use Rattle.engine_events.specs.declared.event.Name.{Name}
use Rattle.engine_events.specs.declared.event.Name.TheVariants as names
use Rattle.engine_states.specs.declared.label.Label.{Label}
use Rattle.engine_states.specs.declared.label.LabelKind.{LabelKind}
use Rattle.engine_states.specs.declared.label.LabelKind.TheVariants as kinds
use Rattle.engine_states.specs.declared.label.LabelStart.{LabelStart}
use Rattle.engine_edits.specs.Edits.{EditAt, with_edit}
use Rattle.markdown_engine.specs.KeptState.{KeptState}
use Rattle.state_edits_data.specs.Each.{enter_event, exit_event, later, place_at}

-- the name of what a label belongs to
abbrev pub group_name : LabelKind → Name
group_name kinds.Image = names.Image
group_name kinds.Link = names.Link
group_name kinds.GfmFootnote = names.GfmFootnoteCall
group_name kinds.GfmUndefinedFootnote = names.Link

-- how many events there are from an index up to and at another
abbrev pub count : ℕ → ℕ → ℕ
count from to = if nat_lt to from then 0 else later 1 (to - from)

module _ (events : List Event) where
  abbrev pub enters : Name → ℕ → Event
  enters name i = enter_event name (place_at events i)

  abbrev pub exits : Name → ℕ → Event
  exits name i = exit_event name (place_at events i)

  -- a start: the label begins before it, and its text after it
  abbrev pub with_start : Label → List EditAt → List EditAt
  with_start l edits = with_edit true (later 1 l.start.1) 0 (enters names.LabelText l.start.1 ∷ [])
      (with_edit false l.start.0 0 (enters (group_name l.kind) l.start.0 ∷ enters names.Label l.start.0 ∷ []) edits)

  -- a footnote's start that is no call: a link, whose text begins with the `^`
  abbrev pub link_start : ℕ → ℕ → List Event
  link_start from to =
      enters names.Link from ∷ enters names.Label from ∷ enters names.LabelLink from ∷ enters names.LabelMarker from
      ∷ exits names.LabelMarker (later 2 from) ∷ exits names.LabelLink (later 2 from) ∷ enters names.LabelText (later 2 from)
      ∷ enters names.Data (later 2 from) ∷ exits names.Data to ∷ []

  abbrev pub with_link_start : Label → List EditAt → List EditAt
  with_link_start l edits = with_edit false l.start.0 6 (link_start l.start.0 l.start.1) edits

  -- an end: the text ends before it, the label after it, and all where what follows the label ends
  abbrev pub with_end : Label → List EditAt → List EditAt
  with_end l edits =
      with_edit false (later 1 l.end.1) 0 (exits (group_name l.kind) l.end.1 ∷ [])
      (with_edit false (later 4 l.end.0) 0 (exits names.Label (later 3 l.end.0) ∷ [])
      (with_edit false l.end.0 0 (exits names.LabelText l.end.0 ∷ []) edits))

  abbrev pub with_label : List EditAt → Label → List EditAt
  with_label edits l = if sameb the_type l.kind kinds.GfmUndefinedFootnote then with_end l (with_link_start l edits) else with_end l (with_start l edits)

  -- a start that found no end is data
  abbrev pub with_loose : List EditAt → LabelStart → List EditAt
  with_loose edits s = with_edit false s.start.0 (count s.start.0 s.start.1) (enters names.Data s.start.0 ∷ exits names.Data s.start.1 ∷ []) edits

  -- the labels first, in the order in which they were found: what is in them was found before
  abbrev pub label_edits : KeptState → List EditAt
  label_edits k = fold with_loose (fold with_loose (fold with_label [] k.labels) k.label_starts_loose) k.label_starts
