-- What the states of an underline come to (CommonMark 4.3).
use Rattle.std.specs.Prelude.{◌≡◌, ℕ, Bool, true, false, not, ◌==◌, ◌&&◌, if◌then◌else◌, List, [], ◌∷◌, ◌++◌, length, drop, Option, None, Some}
use Rattle.definition_block.specs.HeadingSetext.{underline_of}
use Rattle.definition_text.specs.Ascii.{equals, hyphen}
use Rattle.definition_text.specs.Runs.{run}
use Rattle.engine_events.specs.Events.{event}
use Rattle.engine_events.specs.declared.event.Event.{Event}
use Rattle.engine_events.specs.declared.event.Kind.TheVariants.{Enter, Exit}
use Rattle.engine_events.specs.declared.event.Name.TheVariants as names
use Rattle.engine_events.specs.declared.place.Point.{Point}
use Rattle.engine_states.specs.declared.resolve.Name.TheVariants as resolvers
use Rattle.engine_states.specs.declared.state.Block.TheVariants as state_block
use Rattle.markdown_engine.specs.Context.{Context}
use Rattle.markdown_engine.specs.KeptState.{KeptState}
use Rattle.markdown_engine.specs.Machine.{to_run_last}
use Rattle.markdown_engine.specs.Reading.{Config}
use Rattle.state_table.specs.BlockWords.{retry}
use Rattle.state_left.specs.Before.{is_after_content}
use Rattle.state_left.specs.Left.{is_paragraph_left}
use Rattle.state_flow.specs.declared.flows.Flows.{Flows}
use Rattle.state_verdicts.specs.Codes.{Sees}
use Rattle.state_verdicts.specs.Lines.{LineEnds, after_line}
use Rattle.state_verdicts.specs.WhiteSpace.{white_events}
use Rattle.state_verdicts.specs.BlockVerdicts.{AtPlaces, InLine, Leaves, Reads, at_hand, line}

-- where the underline begins among the events is kept
abbrev pub from_here : Config Flows → Config Flows
from_here c = record c { tokenize_state = record c.tokenize_state { start = length c.events } }

-- an underline may stand here: the line isn't lazy, and the line before is one of a paragraph of which something is left after its definitions
abbrev pub may_underline : {T : Type 0} → Context T → Config Flows → Bool
may_underline x c = not c.lazy && (is_after_content c.events && is_paragraph_left x.bytes x.options.constructs.definition (from_here c))

-- the byte of an underline that makes a heading of a rank
abbrev pub underline_byte : ℕ → ℕ
underline_byte rank = if rank == 1 then equals else hyphen

-- the events of an underline: its bytes from a place to another, and then its spaces and tabs
abbrev pub underline_events : List ℕ → Point → Point → Point → List Event
underline_events rest p mid end =
    event Enter names.HeadingSetextUnderline p None ∷ event Enter names.HeadingSetextUnderlineSequence p None
    ∷ event Exit names.HeadingSetextUnderlineSequence mid None ∷ (white_events rest mid end ++ event Exit names.HeadingSetextUnderline end None ∷ [])

-- what is kept: where it began, its byte, and how many columns may follow
abbrev pub underlining : ℕ → ℕ → ℕ → KeptState → KeptState
underlining start byte columns k = record k { start = start; marker = byte; size_c = columns }

-- an attempt goes well exactly if this holds, with the events of an underline, up to the end of the line; then no paragraph is interrupted by what comes
-- next, and the resolver of headings is to run
abbrev pub UnderlineVerdict : {T : Type 0} → InLine T → Option ℕ → Type 0
UnderlineVerdict here None = (d : Config Flows) × Reads here.context here.text (at_hand here) (retry state_block.HeadingSetextStart) d false
UnderlineVerdict here (Some rank) =
    let rest = drop (run (underline_byte rank) (line here)) here.codes in
    (d : Config Flows) × (columns : ℕ) × (mid : Point) × (end : Point)
    × Reads here.context here.text (at_hand here) (retry state_block.HeadingSetextStart) d true
    × Leaves here.text (to_run_last resolvers.HeadingSetext (at_hand here)) d
    (underlining (length here.config.events) (underline_byte rank) columns here.config.tokenize_state)
    (underline_events rest (here.text.start here.place) (here.text.start mid) (here.text.start end)) end
    × (d.interrupt ≡ false) × Sees here.text mid rest × LineEnds here.text end × Sees here.text end (after_line here.codes)

-- at the first byte after the indent, an underline is read exactly if underlines are on, one may stand here, and the line is one
abbrev pub HeadingSetextVerdict : Type 0 → Type 0
HeadingSetextVerdict T = AtPlaces T (λ here. UnderlineVerdict here
    (if here.context.options.constructs.heading_setext && may_underline here.context (at_hand here) then underline_of (line here) else None))
