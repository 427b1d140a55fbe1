-- What the states of spaces and tabs come to (CommonMark 2.1 and 2.2).
use Rattle.std.specs.Prelude.{ℕ, ◌-◌, min, Bool, true, false, nat_lt}
use Rattle.definition_text.specs.Columns.{indent}
use Rattle.definition_text.specs.Indents.{outdent}
use Rattle.engine_events.specs.declared.place.Point.{Point}
use Rattle.engine_states.specs.declared.state.Inline.TheVariants as state_inline
use Rattle.markdown_engine.specs.Reading.{Config}
use Rattle.state_table.specs.BlockWords.{part}
use Rattle.state_flow.specs.declared.flows.Flows.{Flows}
use Rattle.state_verdicts.specs.BlockVerdicts.{InLine, Leaves, Reads, at_hand}
use Rattle.state_verdicts.specs.Columns.{AtColumns, SeesColumns}
use Rattle.state_verdicts.specs.WhiteSpace.{white_if}

module _ {T : Type 0} (here : InLine T) where
  -- how many columns may be read
  abbrev pub most : ℕ
  most = here.config.tokenize_state.size_c

  -- how many are
  abbrev pub taken : ℕ
  taken = min most (indent here.codes)

-- an attempt goes well exactly if this holds, with an event round the columns, up to where the line without them is seen
abbrev pub WhiteVerdict : {T : Type 0} → InLine T → Bool → Type 0
WhiteVerdict here true =
    (d : Config Flows) × (end : Point) × Reads here.context here.text (at_hand here) (part state_inline.SpaceOrTabStart) d true
    × Leaves here.text (at_hand here) d (record here.config.tokenize_state { size_c = most here - taken here })
    (white_if true (here.text.start here.place) (here.text.start end)) end × SeesColumns here.text end (outdent (most here) here.codes)
WhiteVerdict here false = (d : Config Flows) × Reads here.context here.text (at_hand here) (part state_inline.SpaceOrTabStart) d false

-- spaces and tabs are read exactly if there are some and some may be read: at most as many columns
abbrev pub SpaceOrTabVerdict : Type 0 → Type 0
SpaceOrTabVerdict T = AtColumns T (λ here. WhiteVerdict here (nat_lt 0 (taken here)))
