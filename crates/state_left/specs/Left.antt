-- What is left of the open paragraph once the definitions at its front are cut (CommonMark 4.7).
use Rattle.std.specs.Prelude.{ℕ, zero, suc, ◌-◌, Bool, true, false, not, ◌||◌, if◌then◌else◌, List, [], ◌∷◌, ◌++◌, take, drop, length, slice_get, Option}
use Rattle.std.specs.Prelude.{None, Some}
use Rattle.std.specs.List.{fold, suffix_len}
use Rattle.definition_text.specs.Ascii.{line_feed}
use Rattle.definition_text.specs.Columns.{Code}
use Rattle.definition_text.specs.Content.{content_codes}
use Rattle.definition_inline.specs.Definition.{Definition, definition_at}
use Rattle.engine_events.specs.declared.event.Event.{Event}
use Rattle.engine_events.specs.declared.event.Kind.{Kind}
use Rattle.engine_events.specs.declared.event.Kind.TheVariants.{Enter, Exit}
use Rattle.engine_events.specs.declared.event.Name.TheVariants as names
use Rattle.engine_events.specs.Columns.{between}
use Rattle.engine_events.specs.Events.{point_of}
use Rattle.engine_events.specs.Names.{same_name}
use Rattle.markdown_engine.specs.Reading.{Config}

-- ---- the lines of a paragraph

-- an event is one of a line: of its chunk, of its line ending, or of the white space before it
abbrev pub is_of_line : Event → Bool
is_of_line e = same_name e.name names.Content || (same_name e.name names.LineEnding || same_name e.name names.SpaceOrTab)

-- the events of the lines that are the last of these
abbrev pub last_lines : List Event → List Event
last_lines es = drop (length es - suffix_len is_of_line es) es

-- the bytes of a line, and a line ending
abbrev pub line_of : List ℕ → ℕ → ℕ → List ℕ
line_of bytes start end = between start end bytes ++ line_feed ∷ []

-- the lines read so far, and where the last chunk began
pub record Lines : Type 0 where
  pub text : List ℕ
  pub start : ℕ

abbrev pub lines : List ℕ → ℕ → Lines
lines text start = record { text = text; start = start }

-- a chunk begins, or ends
abbrev pub at_chunk : Kind → List ℕ → Lines → ℕ → Lines
at_chunk Enter bytes l index = lines l.text index
at_chunk Exit bytes l index = lines (l.text ++ line_of bytes l.start index) l.start

abbrev pub with_event : List ℕ → Lines → Event → Lines
with_event bytes l e = if same_name e.name names.Content then at_chunk e.kind bytes l (point_of e).index else l

-- the text of the paragraph whose lines are the last of these events
abbrev pub paragraph_text : List ℕ → List Event → List ℕ
paragraph_text bytes es = (fold (with_event bytes) (lines [] 0) (last_lines es)).text

-- ---- what is left

abbrev pub cut_after : Option Definition → List Code → (List Code → List Code) → List Code
cut_after None content cut = content
cut_after (Some d) content cut = cut d.rest

-- a content without at most so many definitions at its front
abbrev pub cut_most : ℕ → List Code → List Code
cut_most zero content = content
cut_most (suc most) content = cut_after (definition_at content) content (cut_most most)

abbrev pub is_empty : List ℕ → Bool
is_empty [] = true
is_empty (c ∷ cs) = false

-- something is left of a paragraph's text after all definitions at its front, each of which has a byte at least
abbrev pub is_left : List ℕ → Bool
is_left text = not (is_empty (cut_most (length text) (content_codes text)))

-- ---- the open paragraph

-- the events from an index on that come before another
abbrev pub events_between : ℕ → ℕ → List Event → List Event
events_between first end es = drop first (take end es)

abbrev pub index_of : Option Event → ℕ
index_of None = 0
index_of (Some e) = (point_of e).index

-- where in the text the event at an index is
abbrev pub place_at : List Event → ℕ → ℕ
place_at es i = index_of (slice_get es i)

module _ {M : Type 0} where
  -- The text of the paragraph that was open when there were `start` events. `space_or_tab_min` keeps how many there were when the innermost container began: its
  -- paragraphs have no lines before.
  abbrev pub open_text : List ℕ → Config M → List ℕ
  open_text bytes c = paragraph_text bytes (events_between c.tokenize_state.space_or_tab_min c.tokenize_state.start c.events)

  -- the same, with the line of a table's head, which began with the event at `start` and ended at `end`
  abbrev pub head_text : List ℕ → Config M → List ℕ
  head_text bytes c = open_text bytes c ++ line_of bytes (place_at c.events c.tokenize_state.start) c.tokenize_state.end

  -- something is left of the paragraph, where there are definitions
  abbrev pub is_paragraph_left : List ℕ → Bool → Config M → Bool
  is_paragraph_left bytes definition c = not definition || is_left (open_text bytes c)

  -- the line of a table's head belongs to no definition
  abbrev pub is_head_left : List ℕ → Bool → Config M → Bool
  is_head_left bytes definition c = not definition || is_left (head_text bytes c)
