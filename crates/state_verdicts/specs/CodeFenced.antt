-- What the states of fenced code come to, and of its opening line (CommonMark 4.5).
use Rattle.std.specs.Prelude.{◌≡◌, ℕ, ◌^◌, ◌<◌, Bool, true, false, not, ◌==◌, nat_lt, if◌then◌else◌, List, [], ◌∷◌, ◌++◌, drop, length}
use Rattle.std.specs.Prelude.{Option, None, Some}
use Rattle.definition_block.specs.CodeFenced.{Fence, fence_of}
use Rattle.definition_text.specs.Ascii.{dollar, line_feed}
use Rattle.definition_text.specs.Columns.{bare, bytes_of}
use Rattle.definition_text.specs.Runs.{run}
use Rattle.engine_events.specs.Events.{event}
use Rattle.engine_events.specs.declared.event.Content.TheVariants as contents
use Rattle.engine_events.specs.declared.event.Event.{Event}
use Rattle.engine_events.specs.declared.event.Kind.TheVariants.{Enter, Exit}
use Rattle.engine_events.specs.declared.event.Name.{Name as EventName}
use Rattle.engine_events.specs.declared.event.Name.TheVariants as names
use Rattle.engine_events.specs.declared.place.Point.{Point}
use Rattle.engine_states.specs.declared.state.Block.TheVariants as state_block
use Rattle.markdown_engine.specs.KeptState.{KeptState}
use Rattle.markdown_engine.specs.Reading.{Config}
use Rattle.markdown_engine.specs.VirtualText.{Text, as_byte, is_feed}
use Rattle.state_flow.specs.declared.flows.Flows.{Flows}
use Rattle.state_table.specs.BlockWords.{chunk_of, is_white, retry}
use Rattle.state_table.specs.Words.{is_space_or_tab}
use Rattle.state_verdicts.specs.Codes.{Sees}
use Rattle.state_verdicts.specs.Columns.{SeesColumns}
use Rattle.state_verdicts.specs.Lines.{LineEnds, SkipsOnce, after_line}
use Rattle.state_verdicts.specs.RawFlow.{RawLines, counting}
use Rattle.state_verdicts.specs.Stretch.{Stretch}
use Rattle.state_verdicts.specs.TextBlank.{ShowsBlank}
use Rattle.state_verdicts.specs.WhiteSpace.{white_events, white_if}
use Rattle.state_verdicts.specs.BlockVerdicts.{AtCodes, AtPlaces, GoesOn, InLine, Leaves, Reads, at_hand, line}

-- the events of the first byte of a fence up to its last
abbrev pub fence_events : Point → Point → List Event
fence_events p end = event Enter names.CodeFenced p None ∷ event Enter names.CodeFencedFence p None ∷ event Enter names.CodeFencedFenceSequence p None
    ∷ event Exit names.CodeFencedFenceSequence end None ∷ []

-- a byte of a word: neither white space nor a line ending
abbrev pub is_word : ℕ → Bool
is_word b = not (is_white b)

-- the events of a string from a place to another, that is read later
abbrev pub string_events : EventName → Point → Point → List Event
string_events name p q =
    event Enter name p None ∷ event Enter names.Data p (Some (chunk_of contents.String)) ∷ event Exit names.Data q None ∷ event Exit name q None ∷ []

-- those of the info
abbrev pub info_events : Point → Point → List Event
info_events p q = string_events names.CodeFencedFenceInfo p q

-- from a place to another these are the events of the info, which is the word there; at the end of the line there is none
pub data InfoAt (text : Text) : Point → List Event → Point → Type 0 where
  none : {p : Point} → LineEnds text p → InfoAt text p [] p
  word : {b n : ℕ} {p q r : Point} → text.byte (text.start p) ≡ Some (as_byte b q) → is_word b ≡ true → Stretch text is_word n q r
      → InfoAt text p (info_events (text.start p) (text.start r)) r

-- bytes of a line lead from a place to another, and the last of them is no white space
pub data Words (text : Text) : Point → Point → Type 0 where
  one : {b : ℕ} {p q : Point} → text.byte (text.start p) ≡ Some (as_byte b q) → is_word b ≡ true → Words text p q
  more : {b : ℕ} {p q r : Point} → text.byte (text.start p) ≡ Some (as_byte b q) → (b == line_feed) ≡ false → Words text q r → Words text p r

-- from a place to the end of the line these are the events of what follows the info, a string, and of the white space after it; at the end there is none
pub data MetaAt (text : Text) (name : EventName) : Point → List Event → Point → Type 0 where
  none : {p : Point} → LineEnds text p → MetaAt text name p [] p
  string : {n : ℕ} {p q end : Point} → Words text p q → Stretch text is_space_or_tab n q end → LineEnds text end
      → MetaAt text name p (string_events name (text.start p) (text.start q) ++ white_if (nat_lt 0 n) (text.start q) (text.start end)) end

-- the same from a place before white space
pub data FurtherAt (text : Text) (name : EventName) : Point → List Event → Point → Type 0 where
  further : {n : ℕ} {p q end : Point} {events : List Event} → Stretch text is_space_or_tab n p q → MetaAt text name q events end
      → FurtherAt text name p (white_if (nat_lt 0 n) (text.start p) (text.start q) ++ events) end

-- what is kept: the byte of the fence, how many there are, how many columns of white space may follow, and the names of the events of code
abbrev pub fencing : ℕ → ℕ → ℕ → KeptState → KeptState
fencing byte size columns k = record k {
  marker = byte;
  size = size;
  size_c = columns;
  token_1 = names.CodeFenced;
  token_2 = names.CodeFencedFence;
  token_3 = names.CodeFencedFenceSequence;
  token_4 = names.CodeFencedFenceInfo;
  token_5 = names.CodeFencedFenceMeta;
  token_6 = names.CodeFlowChunk;
}

-- an attempt fails where the definition has no fence; otherwise it goes on at the end of the line, and the events begin with those of the fence, of the
-- spaces and tabs after it, and of the info
abbrev pub FenceVerdict : {T : Type 0} → InLine T → Option Fence → Type 0
FenceVerdict here None = (d : Config Flows) × Reads here.context here.text (at_hand here) (retry state_block.RawFlowStart) d false
FenceVerdict here (Some fence) =
    (d : Config Flows) × (columns : ℕ) × (mid : Point) × (info : Point) × (rest : Point) × (end : Point) × (named : List Event)
    × (further : List Event)
    × GoesOn here.context here.text (at_hand here) (retry state_block.RawFlowStart) d (retry state_block.RawFlowInfoBefore)
    × Leaves here.text (at_hand here) d (fencing fence.byte fence.run columns here.config.tokenize_state)
    (fence_events (here.text.start here.place) (here.text.start mid)
    ++ (white_events (drop fence.run here.codes) (here.text.start mid) (here.text.start info) ++ (named ++ further))) end
    × (is_feed d.previous ≡ false) × Sees here.text mid (drop fence.run here.codes) × Sees here.text info (bare (drop fence.run here.codes))
    × InfoAt here.text info named rest × LineEnds here.text end × Sees here.text end (after_line here.codes)

-- at the first byte after the indent, where that is no dollar, code begins exactly if fences are on and the line is one
abbrev pub CodeFencedVerdict : Type 0 → Type 0
CodeFencedVerdict T = AtPlaces T (λ here. (columns : ℕ) → run dollar (line here) ≡ 0
    → FenceVerdict here (if here.context.options.constructs.code_fenced then fence_of columns (line here) else None))

-- ---- all of it

-- an attempt fails where the definition has no fence; otherwise it goes well, with the events of the opening line and of all further lines; then no paragraph
-- is interrupted by what comes next
abbrev pub CodeVerdict : {T : Type 0} → InLine T → Option Fence → Type 0
CodeVerdict here None = (d : Config Flows) × Reads here.context here.text (at_hand here) (retry state_block.RawFlowStart) d false
CodeVerdict here (Some fence) =
    (d : Config Flows) × (spare : ℕ) × (size : ℕ) × (columns : ℕ) × (mid : Point) × (info : Point) × (rest : Point) × (first : Point)
    × (named : List Event) × (further : List Event) × (lines : List ℕ) × (inside : List Event) × (end : Point) × (left : List ℕ)
    × Reads here.context here.text (at_hand here) (retry state_block.RawFlowStart) d true
    × Leaves here.text (at_hand here) d (counting size columns (fencing fence.byte fence.run spare here.config.tokenize_state))
    (fence_events (here.text.start here.place) (here.text.start mid)
    ++ (white_events (drop fence.run here.codes) (here.text.start mid) (here.text.start info)
    ++ (named ++ (further ++ (event Exit names.CodeFencedFence (here.text.start first) None ∷ inside))))) end
    × Sees here.text mid (drop fence.run here.codes) × Sees here.text info (bare (drop fence.run here.codes))
    × InfoAt here.text info named rest × FurtherAt here.text names.CodeFencedFenceMeta rest further first × LineEnds here.text first
    × SeesColumns here.text first lines × (bytes_of lines ≡ bytes_of (after_line here.codes))
    × RawLines (fencing fence.byte fence.run spare here.config.tokenize_state) here.context.options.constructs here.text lines first inside end left
    × (d.interrupt ≡ false) × LineEnds here.text end × Sees here.text end left

-- outside containers, at the first byte after the indent, where that is no dollar, in a text that skips nothing twice and has fewer than 2^60 codes left, code
-- is read exactly if fences are on and the line is one
abbrev pub CodeFencedWholeVerdict : Type 0 → Type 0
CodeFencedWholeVerdict T = AtCodes T (λ here. SkipsOnce here.text → length here.codes < 2 ^ 60 → here.config.tokenize_state.connect ≡ false
    → ShowsBlank here.context.bytes here.text → here.config.lazy ≡ false → run dollar (line here) ≡ 0
    → CodeVerdict here (if here.context.options.constructs.code_fenced then fence_of here.config.tokenize_state.space_or_tab_size (line here) else None))
