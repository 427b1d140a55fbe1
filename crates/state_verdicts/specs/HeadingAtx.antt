-- What the states of an ATX heading come to (CommonMark 4.2).
use Rattle.std.specs.Prelude.{◌≡◌, ℕ, Bool, true, false, not, ◌==◌, if◌then◌else◌, List, [], ◌∷◌, ◌++◌, drop, Option, None, Some}
use Rattle.definition_block.specs.HeadingAtx.{Atx, atx_of}
use Rattle.definition_text.specs.Ascii.{line_feed, number_sign}
use Rattle.engine_events.specs.Events.{event}
use Rattle.engine_events.specs.declared.event.Content.TheVariants as contents
use Rattle.engine_events.specs.declared.event.Event.{Event}
use Rattle.engine_events.specs.declared.event.Kind.TheVariants.{Enter, Exit}
use Rattle.engine_events.specs.declared.event.Name.TheVariants as names
use Rattle.engine_events.specs.declared.place.Point.{Point}
use Rattle.engine_states.specs.declared.resolve.Name.TheVariants as resolvers
use Rattle.engine_states.specs.declared.state.Block.TheVariants as state_block
use Rattle.markdown_engine.specs.Machine.{to_run_last}
use Rattle.markdown_engine.specs.Reading.{Config}
use Rattle.markdown_engine.specs.VirtualText.{Text, as_byte, is_feed}
use Rattle.state_table.specs.BlockWords.{chunk_of, is_white, retry}
use Rattle.state_table.specs.Words.{is_space_or_tab}
use Rattle.state_verdicts.specs.Codes.{Sees}
use Rattle.state_verdicts.specs.Lines.{LineEnds, after_line}
use Rattle.state_verdicts.specs.Stretch.{Stretch}
use Rattle.state_flow.specs.declared.flows.Flows.{Flows}
use Rattle.state_verdicts.specs.BlockVerdicts.{AtCodes, AtPlaces, GoesOn, InLine, Leaves, Reads, at_hand, line}

-- the events of the first `#` up to the last of the opening ones
abbrev pub opening_events : Point → Point → List Event
opening_events p end = event Enter names.HeadingAtx p None ∷ event Enter names.HeadingAtxSequence p None ∷ event Exit names.HeadingAtxSequence end None ∷ []

-- an attempt fails where the definition has no heading; otherwise it goes on in the same line after the opening sequence, whose size is kept
abbrev pub OpeningVerdict : {T : Type 0} → InLine T → Option Atx → Type 0
OpeningVerdict here None = (d : Config Flows) × Reads here.context here.text (at_hand here) (retry state_block.HeadingAtxStart) d false
OpeningVerdict here (Some heading) =
    (d : Config Flows) × (end : Point)
    × GoesOn here.context here.text (at_hand here) (retry state_block.HeadingAtxStart) d (retry state_block.HeadingAtxAtBreak)
    × Leaves here.text (at_hand here) d (record here.config.tokenize_state { size = heading.rank })
    (opening_events (here.text.start here.place) (here.text.start end)) end
    × (is_feed d.previous ≡ false) × Sees here.text end (drop heading.rank here.codes)

-- at the first byte after the indent, a heading begins exactly if headings are on and the line is one
abbrev pub HeadingAtxVerdict : Type 0 → Type 0
HeadingAtxVerdict T = AtCodes T (λ here. OpeningVerdict here (if here.context.options.constructs.heading_atx then atx_of (line here) else None))

-- ---- the whole line

-- the parts of the line after the opening sequence: white space, further `#`, and text
pub data HeadingPart : Type 0 where
  White : HeadingPart
  Signs : HeadingPart
  Words : HeadingPart

-- the part that a byte begins
abbrev pub part_of : ℕ → HeadingPart
part_of b = if is_space_or_tab b then White else (if b == number_sign then Signs else Words)

-- a byte goes on with a part
abbrev pub goes_on_with : HeadingPart → ℕ → Bool
goes_on_with White b = is_space_or_tab b
goes_on_with Signs b = b == number_sign
goes_on_with Words b = not (is_white b)

-- the events of a part from a place to another; text is a chunk that is read later
abbrev pub part_events : HeadingPart → Point → Point → List Event
part_events White p q = event Enter names.SpaceOrTab p None ∷ event Exit names.SpaceOrTab q None ∷ []
part_events Signs p q = event Enter names.HeadingAtxSequence p None ∷ event Exit names.HeadingAtxSequence q None ∷ []
part_events Words p q = event Enter names.Data p (Some (chunk_of contents.Text)) ∷ event Exit names.Data q None ∷ []

-- from a place up to the end of the line these are the events of its parts, each as long as it can be
pub data HeadingParts (text : Text) : Point → List Event → Point → Type 0 where
  over : {p : Point} → LineEnds text p → HeadingParts text p [] p
  further : {b n : ℕ} {p q r end : Point} {events : List Event} → text.byte (text.start p) ≡ Some (as_byte b q) → (b == line_feed) ≡ false
      → Stretch text (goes_on_with (part_of b)) n q r → HeadingParts text r events end
      → HeadingParts text p (part_events (part_of b) (text.start p) (text.start r) ++ events) end

-- an attempt fails where the definition has no heading; otherwise it goes well, with the events of the opening sequence and of each part of the line, up to
-- the end of the line; then no paragraph is interrupted by what comes next, and the resolver of such headings is to run
abbrev pub HeadingVerdict : {T : Type 0} → InLine T → Option Atx → Type 0
HeadingVerdict here None = (d : Config Flows) × Reads here.context here.text (at_hand here) (retry state_block.HeadingAtxStart) d false
HeadingVerdict here (Some heading) =
    (d : Config Flows) × (columns : ℕ) × (mid : Point) × (inside : List Event) × (end : Point)
    × Reads here.context here.text (at_hand here) (retry state_block.HeadingAtxStart) d true
    × Leaves here.text (to_run_last resolvers.HeadingAtx (at_hand here)) d (record here.config.tokenize_state { size = heading.rank; size_c = columns })
    (opening_events (here.text.start here.place) (here.text.start mid) ++ (inside ++ event Exit names.HeadingAtx (here.text.start end) None ∷ [])) end
    × Sees here.text mid (drop heading.rank here.codes) × HeadingParts here.text mid inside end × (d.interrupt ≡ false)
    × Sees here.text end (after_line here.codes)

-- at the first byte after the indent, a heading is read exactly if headings are on and the line is one
abbrev pub HeadingAtxLineVerdict : Type 0 → Type 0
HeadingAtxLineVerdict T = AtPlaces T (λ here. HeadingVerdict here (if here.context.options.constructs.heading_atx then atx_of (line here) else None))
