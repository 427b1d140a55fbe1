-- What the states of a blank line come to (CommonMark 4.9).
use Rattle.std.specs.Prelude.{ℕ, Bool, true, false}
use Rattle.definition_text.specs.Columns.{is_blank}
use Rattle.engine_events.specs.declared.place.Point.{Point}
use Rattle.engine_states.specs.declared.state.Block.TheVariants as state_block
use Rattle.markdown_engine.specs.Reading.{Config}
use Rattle.state_table.specs.BlockWords.{retry}
use Rattle.state_flow.specs.declared.flows.Flows.{Flows}
use Rattle.state_verdicts.specs.Codes.{Sees}
use Rattle.state_verdicts.specs.Lines.{LineEnds, after_line}
use Rattle.state_verdicts.specs.WhiteSpace.{white_events}
use Rattle.state_verdicts.specs.BlockVerdicts.{AtPlaces, InLine, Leaves, Reads, at_hand, line}

-- an attempt goes well exactly if this holds, with the events of the spaces and tabs, up to the end of the line
abbrev pub BlankVerdict : {T : Type 0} → InLine T → Bool → Type 0
BlankVerdict here true =
    (d : Config Flows) × (columns : ℕ) × (end : Point) × Reads here.context here.text (at_hand here) (retry state_block.BlankLineStart) d true
    × Leaves here.text (at_hand here) d (record here.config.tokenize_state { size_c = columns })
    (white_events here.codes (here.text.start here.place) (here.text.start end)) end × LineEnds here.text end × Sees here.text end (after_line here.codes)
BlankVerdict here false = (d : Config Flows) × Reads here.context here.text (at_hand here) (retry state_block.BlankLineStart) d false

-- a line is read as blank exactly if nothing but spaces and tabs is left of it
abbrev pub BlankLineVerdict : Type 0 → Type 0
BlankLineVerdict T = AtPlaces T (λ here. BlankVerdict here (is_blank (line here)))
