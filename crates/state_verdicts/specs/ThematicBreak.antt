-- What the states of a thematic break come to (CommonMark 4.1).
use Rattle.std.specs.Prelude.{◌≡◌, ℕ, Bool, true, false, not, ◌==◌, ◌&&◌, List, [], ◌∷◌, ◌++◌, Some, None}
use Rattle.definition_block.specs.ThematicBreak.{is_break_text}
use Rattle.engine_events.specs.Events.{event}
use Rattle.engine_events.specs.declared.event.Event.{Event}
use Rattle.engine_events.specs.declared.event.Kind.TheVariants.{Enter, Exit}
use Rattle.engine_events.specs.declared.event.Name.{Name as EventName}
use Rattle.engine_events.specs.declared.event.Name.TheVariants as names
use Rattle.engine_events.specs.declared.place.Point.{Point}
use Rattle.engine_states.specs.declared.state.Block.TheVariants as state_block
use Rattle.markdown_engine.specs.KeptState.{KeptState}
use Rattle.markdown_engine.specs.Reading.{Config}
use Rattle.markdown_engine.specs.VirtualText.{Text, as_byte}
use Rattle.state_table.specs.BlockWords.{retry}
use Rattle.state_verdicts.specs.Codes.{Sees}
use Rattle.state_flow.specs.declared.flows.Flows.{Flows}
use Rattle.state_verdicts.specs.Lines.{LineEnds, after_line}
use Rattle.state_verdicts.specs.BlockVerdicts.{AtPlaces, InLine, Leaves, Reads, at_hand, line}

-- the name of the events round spaces and tabs, or round markers
abbrev pub part_name : Bool → EventName
part_name true = names.SpaceOrTab
part_name false = names.ThematicBreakSequence

-- within a part of a break these events are left up to the line's end: one part of spaces and tabs follows one of markers, and the other way round
pub data BreakParts (text : Text) (marker : ℕ) : Bool → Point → List Event → Point → Type 0 where
  along : {white : Bool} {b : ℕ} {p q r : Point} {events : List Event} → text.byte (text.start p) ≡ Some (as_byte b q) → (b == marker) ≡ not white
      → BreakParts text marker white q events r → BreakParts text marker white p events r
  turn : {white : Bool} {b : ℕ} {p q r : Point} {events : List Event} → text.byte (text.start p) ≡ Some (as_byte b q) → (b == marker) ≡ white
      → BreakParts text marker (not white) q events r
      → BreakParts text marker white p
      (event Exit (part_name white) (text.start p) None ∷ event Enter (part_name (not white)) (text.start p) None ∷ events) r
  ended : {white : Bool} {p : Point} → LineEnds text p → BreakParts text marker white p (event Exit (part_name white) (text.start p) None ∷ []) p

-- these are the events of a break from a place up to another
pub record IsBreak (text : Text) (marker : ℕ) (p : Point) (added : List Event) (end : Point) : Type 0 where
  pub after : Point
  pub inside : List Event
  pub first : text.byte (text.start p) ≡ Some (as_byte marker after)
  pub parts : BreakParts text marker false after inside end
  pub events : added ≡ event Enter names.ThematicBreak (text.start p) None ∷ event Enter names.ThematicBreakSequence (text.start p) None
      ∷ (inside ++ event Exit names.ThematicBreak (text.start end) None ∷ [])

-- what is kept once a break was read: its marker, how many there are, and how many columns of white space may follow
abbrev pub breaking : ℕ → ℕ → ℕ → KeptState → KeptState
breaking marker size columns k = record k { marker = marker; size = size; size_c = columns }

-- an attempt goes well exactly if this holds, with the events of a break, up to the end of the line; then no paragraph is interrupted by what comes next
abbrev pub BreakVerdict : {T : Type 0} → InLine T → Bool → Type 0
BreakVerdict here true =
    (d : Config Flows) × (marker : ℕ) × (size : ℕ) × (columns : ℕ) × (added : List Event) × (end : Point)
    × Reads here.context here.text (at_hand here) (retry state_block.ThematicBreakStart) d true × IsBreak here.text marker here.place added end
    × Leaves here.text (at_hand here) d (breaking marker size columns here.config.tokenize_state) added end × (d.interrupt ≡ false)
    × Sees here.text end (after_line here.codes)
BreakVerdict here false = (d : Config Flows) × Reads here.context here.text (at_hand here) (retry state_block.ThematicBreakStart) d false

-- at the first byte after the indent, a break is read exactly if breaks are on and the line is one
abbrev pub ThematicBreakVerdict : Type 0 → Type 0
ThematicBreakVerdict T = AtPlaces T (λ here. BreakVerdict here (here.context.options.constructs.thematic_break && is_break_text (line here)))
