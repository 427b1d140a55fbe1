-- What the states of blocks of math come to (in neither standard).
use Rattle.std.specs.Prelude.{◌≡◌, ℕ, ◌^◌, ◌<◌, true, false, if◌then◌else◌, List, [], ◌∷◌, ◌++◌, drop, length, Option, None, Some}
use Rattle.definition_block.specs.CodeFenced.{Fence}
use Rattle.definition_block.specs.MathFlow.{math_fence_of}
use Rattle.definition_text.specs.Ascii.{dollar}
use Rattle.definition_text.specs.Columns.{bytes_of}
use Rattle.definition_text.specs.Runs.{run}
use Rattle.engine_events.specs.Events.{event}
use Rattle.engine_events.specs.declared.event.Event.{Event}
use Rattle.engine_events.specs.declared.event.Kind.TheVariants.{Enter, Exit}
use Rattle.engine_events.specs.declared.event.Name.TheVariants as names
use Rattle.engine_events.specs.declared.place.Point.{Point}
use Rattle.engine_states.specs.declared.state.Block.TheVariants as state_block
use Rattle.markdown_engine.specs.KeptState.{KeptState}
use Rattle.markdown_engine.specs.Reading.{Config}
use Rattle.state_flow.specs.declared.flows.Flows.{Flows}
use Rattle.state_table.specs.BlockWords.{retry}
use Rattle.state_verdicts.specs.BlockVerdicts.{AtCodes, InLine, Leaves, Reads, at_hand, line}
use Rattle.state_verdicts.specs.CodeFenced.{FurtherAt}
use Rattle.state_verdicts.specs.Codes.{Sees}
use Rattle.state_verdicts.specs.Columns.{SeesColumns}
use Rattle.state_verdicts.specs.Lines.{LineEnds, SkipsOnce, after_line}
use Rattle.state_verdicts.specs.RawFlow.{RawLines, counting}
use Rattle.state_verdicts.specs.TextBlank.{ShowsBlank}

-- the events of the first dollar of a fence up to its last
abbrev pub math_fence_events : Point → Point → List Event
math_fence_events p end = event Enter names.MathFlow p None ∷ event Enter names.MathFlowFence p None ∷ event Enter names.MathFlowFenceSequence p None
    ∷ event Exit names.MathFlowFenceSequence end None ∷ []

-- what is kept: how many dollars there are, how many columns of white space may follow, and the names of the events of math
abbrev pub math_fencing : ℕ → ℕ → KeptState → KeptState
math_fencing size columns k = record k {
  marker = dollar;
  size = size;
  size_c = columns;
  token_1 = names.MathFlow;
  token_2 = names.MathFlowFence;
  token_3 = names.MathFlowFenceSequence;
  token_4 = names.MathFlowFenceMeta;
  token_5 = names.MathFlowFenceMeta;
  token_6 = names.MathFlowChunk;
}

-- an attempt fails where the definition has no math; otherwise it goes well, with the events of the opening line and of all further lines; then no paragraph
-- is interrupted by what comes next
abbrev pub MathVerdict : {T : Type 0} → InLine T → Option Fence → Type 0
MathVerdict here None = (d : Config Flows) × Reads here.context here.text (at_hand here) (retry state_block.RawFlowStart) d false
MathVerdict here (Some fence) =
    (d : Config Flows) × (spare : ℕ) × (size : ℕ) × (columns : ℕ) × (mid : Point) × (first : Point) × (further : List Event) × (lines : List ℕ)
    × (inside : List Event) × (end : Point) × (left : List ℕ)
    × Reads here.context here.text (at_hand here) (retry state_block.RawFlowStart) d true
    × Leaves here.text (at_hand here) d (counting size columns (math_fencing fence.run spare here.config.tokenize_state))
    (math_fence_events (here.text.start here.place) (here.text.start mid)
    ++ (further ++ (event Exit names.MathFlowFence (here.text.start first) None ∷ inside))) end
    × Sees here.text mid (drop fence.run here.codes) × FurtherAt here.text names.MathFlowFenceMeta mid further first × LineEnds here.text first
    × SeesColumns here.text first lines × (bytes_of lines ≡ bytes_of (after_line here.codes))
    × RawLines (math_fencing fence.run spare here.config.tokenize_state) here.context.options.constructs here.text lines first inside end left
    × (d.interrupt ≡ false) × LineEnds here.text end × Sees here.text end left

-- outside containers, at the first byte after the indent, where that is a dollar, in a text that skips nothing twice and has fewer than 2^60 codes left, math
-- is read exactly if it is on and the line opens it
abbrev pub MathFlowVerdict : Type 0 → Type 0
MathFlowVerdict T = AtCodes T (λ here. SkipsOnce here.text → length here.codes < 2 ^ 60 → here.config.tokenize_state.connect ≡ false
    → ShowsBlank here.context.bytes here.text → here.config.lazy ≡ false → 0 < run dollar (line here)
    → MathVerdict here
    (if here.context.options.constructs.math_flow then math_fence_of here.config.tokenize_state.space_or_tab_size (line here) else None))
