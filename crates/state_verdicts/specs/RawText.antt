-- What the states of code and math come to (CommonMark 6.1).
use Rattle.std.specs.Prelude.{◌≡◌, ℕ, ◌+◌, ◌<◌, Bool, true, false, not, if◌then◌else◌, ◌==◌, ◌||◌, List, [], ◌∷◌, ◌++◌, drop, Option, None, Some}
use Rattle.definition_text.specs.Ascii.{line_feed}
use Rattle.definition_inline.specs.Inline.{InlineLeaf, Found, Data}
use Rattle.engine_events.specs.Events.{event}
use Rattle.engine_events.specs.declared.event.Event.{Event}
use Rattle.engine_events.specs.declared.event.Kind.TheVariants.{Enter, Exit}
use Rattle.engine_events.specs.declared.event.Name.{Name as EventName}
use Rattle.engine_events.specs.declared.event.Name.TheVariants as names
use Rattle.engine_events.specs.declared.place.Point.{Point}
use Rattle.markdown_engine.specs.KeptState.{KeptState}
use Rattle.markdown_engine.specs.Reading.{Config}
use Rattle.markdown_engine.specs.VirtualText.{Text, as_byte}
use Rattle.state_leaves.specs.RawText.{begins_run}
use Rattle.state_inline.specs.declared.inlines.Inlines.{Inlines}
use Rattle.state_verdicts.specs.Codes.{Sees}
use Rattle.state_verdicts.specs.Beginnings.{Beginning, all_codes, at_hand}
use Rattle.state_verdicts.specs.Stretch.{Stretch}
use Rattle.state_verdicts.specs.Verdicts.{Comes, Leaves}

-- the names of the events of a span: of all of it, of a run of its byte, and of what stands between
pub record SpanNames : Type 0 where
  pub whole : EventName
  pub sequence : EventName
  pub content : EventName

-- an event from a place to another, and then more
abbrev pub piece : EventName → Point → Point → List Event → List Event
piece name p q events = event Enter name p None ∷ event Exit name q None ∷ events

-- a byte that is neither a line ending nor this one
abbrev pub is_other : ℕ → ℕ → Bool
is_other marker b = not ((b == line_feed) || (b == marker))

-- the events from a place up to the end of a run of exactly so many of a byte: each line ending, each run of another size, and each stretch between these
pub data Pieces (text : Text) (given : SpanNames) (marker size : ℕ) : Point → List Event → Point → Type 0 where
  closing : {p q : Point} → Stretch text (λ b. b == marker) size p q → Pieces text given marker size p (piece given.sequence (text.start p) (text.start q) []) q
  run : {n : ℕ} {p q r : Point} {events : List Event} → 0 < n → (n == size) ≡ false → Stretch text (λ b. b == marker) n p q
      → Pieces text given marker size q events r
      → Pieces text given marker size p (piece given.sequence (text.start p) (text.start q) events) r
  ending : {p q r : Point} {events : List Event} → text.byte (text.start p) ≡ Some (as_byte line_feed q) → Pieces text given marker size q events r
      → Pieces text given marker size p (piece names.LineEnding (text.start p) q events) r
  others : {n : ℕ} {p q r : Point} {events : List Event} → 0 < n → Stretch text (is_other marker) n p q → Pieces text given marker size q events r
      → Pieces text given marker size p (piece given.content (text.start p) (text.start q) events) r

-- these are the events of a span: its first byte is at a place, others like it follow, and its end is found
pub record IsSpan (text : Text) (given : SpanNames) (marker : ℕ) (p q : Point) (size : ℕ) (added : List Event) (end : Point) : Type 0 where
  pub further : ℕ
  pub opened : Point
  pub inside : List Event
  pub all : size ≡ further + 1
  pub opening : Stretch text (λ b. b == marker) further q opened
  pub pieces : Pieces text given marker size opened inside end
  pub events : added ≡ event Enter given.whole p None ∷ piece given.sequence p (text.start opened) (inside ++ event Exit given.whole (text.start end) None ∷ [])

-- what is kept once a span was read, or so many bytes of its end
abbrev pub spanning : SpanNames → ℕ → ℕ → ℕ → KeptState → KeptState
spanning given marker size size_b k =
    record k { marker = marker; size = size; size_b = size_b; token_1 = given.whole; token_2 = given.sequence; token_3 = given.content }

abbrev pub is_text : List InlineLeaf → Bool
is_text (Data code ∷ parts) = true
is_text parts = false

-- a leaf that is a span: a run that opens none is text
abbrev pub of_span : Option Found → Option Found
of_span None = None
of_span (Some leaf) = if is_text leaf.parts then None else Some leaf

-- the attempt fails where there is no span; otherwise it goes well, with the span's events, up to where what it leaves of the codes is seen
abbrev pub SpanVerdict : Text → Comes → SpanNames → ℕ → Config Inlines → Point → Point → List ℕ → Option Found → Type 0
SpanVerdict text comes given marker c p q codes None = (d : Config Inlines) × comes d false
SpanVerdict text comes given marker c p q codes (Some leaf) =
    (d : Config Inlines) × (size : ℕ) × (added : List Event) × (end : Point) × comes d true × IsSpan text given marker p q size added end
    × Leaves c d (spanning given marker size size c.tokenize_state) added (text.start end) × Sees text end (drop leaf.size codes)

-- an attempt at a byte reads a span of such names exactly where a run begins and this leaf of the definition is a span
abbrev pub ReadsSpan : {T : Type 0} → SpanNames → Option Found → Beginning T → Comes → Type 0
ReadsSpan given found here comes =
    SpanVerdict here.text comes given here.byte (at_hand here) here.place here.after (all_codes here)
    (if begins_run here.byte here.config then of_span found else None)
