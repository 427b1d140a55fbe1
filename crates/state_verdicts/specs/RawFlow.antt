-- What the states of the lines of fenced code and of math come to, after the opening one (CommonMark 4.5).
use Rattle.std.specs.Prelude.{◌≡◌, ℕ, ◌^◌, ◌<◌, min, Bool, true, false, ◌==◌, ◌&&◌, ◌||◌, nat_lt, List, [], ◌∷◌, ◌++◌, drop, length, None, Some}
use Rattle.markdown_options.specs.declared.configuration.Constructs.{Constructs}
use Rattle.definition_text.specs.Ascii.{backtick, dollar, line_feed, tilde}
use Rattle.definition_text.specs.Columns.{bare, indent}
use Rattle.definition_text.specs.Indents.{outdent, small_indent}
use Rattle.definition_text.specs.Runs.{is_run, run}
use Rattle.engine_events.specs.Events.{event}
use Rattle.engine_events.specs.declared.event.Event.{Event}
use Rattle.engine_events.specs.declared.event.Kind.TheVariants.{Enter, Exit}
use Rattle.engine_events.specs.declared.event.Name.{Name as EventName}
use Rattle.engine_events.specs.declared.place.Point.{Point}
use Rattle.engine_states.specs.declared.state.Block.TheVariants as state_block
use Rattle.markdown_engine.specs.KeptState.{KeptState}
use Rattle.markdown_engine.specs.Reading.{Config}
use Rattle.markdown_engine.specs.VirtualText.{Text, as_byte, is_feed}
use Rattle.state_table.specs.BlockWords.{retry}
use Rattle.state_flow.specs.declared.flows.Flows.{Flows}
use Rattle.state_verdicts.specs.Codes.{Sees}
use Rattle.state_verdicts.specs.Columns.{AtColumns, SeesColumns}
use Rattle.state_verdicts.specs.Lines.{LineEnds, SkipsOnce, after_line, is_filled, line_of}
use Rattle.state_verdicts.specs.WhiteSpace.{ending_events, white_events, white_if}
use Rattle.state_verdicts.specs.BlockVerdicts.{AtPlaces, InLine, Leaves, Reads, at_hand, line}

-- a byte of which there are fences
abbrev pub is_fence_byte : ℕ → Bool
is_fence_byte b = (b == backtick) || (b == tilde) || (b == dollar)

module _ {T : Type 0} (here : InLine T) where
  -- what is kept: the byte and the size of the opening fence, and the names of the events
  abbrev pub kept_here : KeptState
  kept_here = here.config.tokenize_state

  -- how many of the byte the line begins with, and the codes after them
  abbrev pub closing_size : ℕ
  closing_size = run kept_here.marker (line here)

  abbrev pub after_closing : List ℕ
  after_closing = drop closing_size here.codes

-- the events of a closing fence, from its first byte on: its bytes, and then its spaces and tabs
abbrev pub closing_events : KeptState → List ℕ → Point → Point → Point → List Event
closing_events k rest p mid end =
    event Enter k.token_3 p None ∷ event Exit k.token_3 mid None ∷ (white_events rest mid end ++ event Exit k.token_2 end None ∷ [])

-- what is kept: how many bytes of a closing fence were counted, and how many columns may follow
abbrev pub counting : ℕ → ℕ → KeptState → KeptState
counting size columns k = record k { size_b = size; size_c = columns }

-- what an attempt that fails leaves: of what is kept, only these have changed
pub record LeavesCounted (c d : Config Flows) : Type 0 where
  pub size : ℕ
  pub columns : ℕ
  pub kept : d.tokenize_state ≡ counting size columns c.tokenize_state
  pub map : d.map ≡ c.map
  pub resolvers : d.resolvers ≡ c.resolvers

-- an attempt goes well exactly if this holds, with the events of the closing fence, up to the end of the line
abbrev pub ClosingVerdict : {T : Type 0} → InLine T → Bool → Type 0
ClosingVerdict here true =
    (d : Config Flows) × (columns : ℕ) × (mid : Point) × (end : Point)
    × Reads here.context here.text (at_hand here) (retry state_block.RawFlowBeforeSequenceClose) d true
    × Leaves here.text (at_hand here) d (counting (closing_size here) columns here.config.tokenize_state)
    (closing_events (kept_here here) (after_closing here) (here.text.start here.place) (here.text.start mid) (here.text.start end)) end
    × (is_feed d.previous ≡ false) × Sees here.text mid (after_closing here) × LineEnds here.text end × Sees here.text end (after_line here.codes)
ClosingVerdict here false =
    (d : Config Flows) × Reads here.context here.text (at_hand here) (retry state_block.RawFlowBeforeSequenceClose) d false
    × LeavesCounted here.config d

-- at the first byte after the indent of a line within code or math, a closing fence is read exactly if the line is a run of the fence's byte, at least as long
abbrev pub ClosingFenceVerdict : Type 0 → Type 0
ClosingFenceVerdict T = AtPlaces T (λ here. is_fence_byte (kept_here here).marker ≡ true → 0 < (kept_here here).size
    → ClosingVerdict here (is_run (kept_here here).size (kept_here here).marker (line here)))

-- ---- all lines after the opening one

-- the events of what a line holds from a place to its end, if that is anything
abbrev pub chunk_if : EventName → Bool → Point → Point → List Event
chunk_if name true p end = event Enter name p None ∷ event Exit name end None ∷ []
chunk_if name false p end = []

module _ (k : KeptState) where
  -- a line closes the fence that is kept: a run of its byte, at least as long, after a small indent
  abbrev pub closes_fence : Constructs → List ℕ → Bool
  closes_fence on line = small_indent on line && is_run k.size k.marker (bare line)

  -- the codes of a line after the fence that closes there
  abbrev pub after_fence : List ℕ → List ℕ
  after_fence codes = drop (run k.marker (line_of (bare codes))) (bare codes)

  -- the events of a closing line: its indent, and the closing fence
  abbrev pub closing_line : List ℕ → Point → Point → Point → Point → List Event
  closing_line codes p first mid end =
      event Enter k.token_2 p None ∷ (white_events codes p first ++ closing_events k (after_fence codes) first mid end)

  -- the columns that a line loses: as many as the fence is indented, where there are as many
  abbrev pub lost : List ℕ → ℕ
  lost codes = min k.space_or_tab_size (indent codes)

  -- the events of a line of the content: the columns that it loses, and what it holds after them
  abbrev pub content_line : List ℕ → Point → Point → Point → List Event
  content_line codes p mid end =
      white_if (nat_lt 0 (lost codes)) p mid ++ chunk_if k.token_6 (is_filled (line_of (outdent k.space_or_tab_size codes))) mid end

  -- From the end of a line on, where these codes are seen, these are the events up to the end of the code or the math, and these codes are left then. It ends
  -- with the text, or with the first line that closes its fence. After a last line ending it ends at once.
  pub data RawLines (on : Constructs) (text : Text) : List ℕ → Point → List Event → Point → List ℕ → Type 0 where
    over : {p : Point} → text.byte (text.start p) ≡ None → RawLines on text [] p (event Exit k.token_1 (text.start p) None ∷ []) p []
    last : {code : ℕ} {p q : Point} → text.byte (text.start p) ≡ Some (as_byte line_feed q) → text.byte (text.start q) ≡ None
        → RawLines on text (code ∷ []) p (ending_events (text.start p) q ++ event Exit k.token_1 q None ∷ []) q []
    closes : {code : ℕ} {codes : List ℕ} {p q first mid end : Point} → text.byte (text.start p) ≡ Some (as_byte line_feed q) → SeesColumns text q codes
        → closes_fence on (line_of codes) ≡ true → SeesColumns text first (bare codes) → Sees text mid (after_fence codes) → LineEnds text end
        → Sees text end (after_line codes)
        → RawLines on text (code ∷ codes) p (ending_events (text.start p) q
        ++ (closing_line codes (text.start q) (text.start first) (text.start mid) (text.start end) ++ event Exit k.token_1 (text.start end) None ∷ [])) end
        (after_line codes)
    further : {code next : ℕ} {codes left : List ℕ} {p q mid r end : Point} {events : List Event} → text.byte (text.start p) ≡ Some (as_byte line_feed q)
        → SeesColumns text q (next ∷ codes) → closes_fence on (line_of (next ∷ codes)) ≡ false
        → SeesColumns text mid (outdent k.space_or_tab_size (next ∷ codes)) → LineEnds text r → SeesColumns text r (after_line (next ∷ codes))
        → RawLines on text (after_line (next ∷ codes)) r events end left
        → RawLines on text (code ∷ next ∷ codes) p
        (ending_events (text.start p) q ++ (content_line (next ∷ codes) (text.start q) (text.start mid) (text.start r) ++ events)) end left

-- what reading comes to from the end of a line on: it goes well, with the events of all further lines; then no paragraph is interrupted by what comes next
abbrev pub LinesVerdict : {T : Type 0} → InLine T → Type 0
LinesVerdict here =
    (d : Config Flows) × (size : ℕ) × (columns : ℕ) × (inside : List Event) × (end : Point) × (left : List ℕ)
    × Reads here.context here.text (at_hand here) (retry state_block.RawFlowBeforeContentChunk) d true
    × Leaves here.text (at_hand here) d (counting size columns here.config.tokenize_state) inside end
    × RawLines here.config.tokenize_state here.context.options.constructs here.text here.codes here.place inside end left
    × (d.interrupt ≡ false) × LineEnds here.text end × Sees here.text end left

-- outside containers, at the end of a line of code or math that isn't empty, in a text that skips nothing twice and has fewer than 2^62 codes left, all further
-- lines are read
abbrev pub RawFlowLinesVerdict : Type 0 → Type 0
RawFlowLinesVerdict T = AtColumns T (λ here. SkipsOnce here.text → length here.codes < 2 ^ 62 → here.config.lazy ≡ false
    → is_feed here.config.previous ≡ false → is_fence_byte (kept_here here).marker ≡ true → 0 < (kept_here here).size → line here ≡ []
    → LinesVerdict here)
