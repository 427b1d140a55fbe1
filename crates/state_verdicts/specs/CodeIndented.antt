-- What the states of indented code come to (CommonMark 4.4).
use Rattle.std.specs.Prelude.{◌≡◌, ℕ, suc, ◌+◌, Bool, true, false, not, ◌&&◌, List, [], ◌∷◌, ◌++◌, drop, length, None, Some, unwrap_or}
use Rattle.std.specs.Option.{option_map}
use Rattle.markdown_options.specs.declared.beside.Kind.TheVariants.{Whitespace}
use Rattle.markdown_options.specs.declared.configuration.Constructs.{Constructs}
use Rattle.definition_block.specs.CodeIndented.{starts_code_indented}
use Rattle.definition_block.specs.Tree.{At, BlockLine, Indented, Inside, OpenLeaf, Opening, Tree, beside_line, indented_tree, takes}
use Rattle.definition_text.specs.Ascii.{line_feed}
use Rattle.definition_text.specs.Columns.{is_blank}
use Rattle.definition_text.specs.Indents.{outdent}
use Rattle.definition_text.specs.Lines.{TextLine}
use Rattle.engine_events.specs.Events.{event}
use Rattle.engine_events.specs.declared.event.Event.{Event}
use Rattle.engine_events.specs.declared.event.Kind.TheVariants.{Enter, Exit}
use Rattle.engine_events.specs.declared.event.Name.TheVariants as names
use Rattle.engine_events.specs.declared.place.Point.{Point}
use Rattle.engine_states.specs.declared.state.Block.TheVariants as state_block
use Rattle.markdown_engine.specs.Reading.{Config}
use Rattle.markdown_engine.specs.VirtualText.{Text, as_byte}
use Rattle.state_table.specs.BlockWords.{retry}
use Rattle.state_flow.specs.declared.flows.Flows.{Flows}
use Rattle.state_verdicts.specs.BlockVerdicts.{GoesOn, InLine, Leaves, Reads, at_hand, line}
use Rattle.state_verdicts.specs.Columns.{AtColumns, SeesColumns}
use Rattle.state_verdicts.specs.Lines.{LineEnds, SkipsOnce, after_line, code_lines, is_filled, line_of}
use Rattle.state_verdicts.specs.WhiteSpace.{ending_events, white_events, white_if}

-- the events of the indent of code
abbrev pub indent_events : Point → Point → List Event
indent_events p end = event Enter names.CodeIndented p None ∷ white_if true p end

-- an attempt fails exactly if this doesn't hold; otherwise it goes on after four columns, with their events
abbrev pub IndentVerdict : {T : Type 0} → InLine T → Bool → Type 0
IndentVerdict here true =
    (d : Config Flows) × (end : Point)
    × GoesOn here.context here.text (at_hand here) (retry state_block.CodeIndentedStart) d (retry state_block.CodeIndentedAtBreak)
    × Leaves here.text (at_hand here) d (record here.config.tokenize_state { size_c = 0 })
    (indent_events (here.text.start here.place) (here.text.start end)) end × SeesColumns here.text end (drop 4 here.codes)
IndentVerdict here false = (d : Config Flows) × Reads here.context here.text (at_hand here) (retry state_block.CodeIndentedStart) d false

-- at the start of a line that isn't blank, in a text that skips nothing twice, code begins exactly if no paragraph is interrupted and the definition says so
abbrev pub CodeIndentedVerdict : Type 0 → Type 0
CodeIndentedVerdict T = AtColumns T (λ here. SkipsOnce here.text → is_blank (line here) ≡ false
    → IndentVerdict here (not here.config.interrupt && starts_code_indented here.context.options.constructs (line here)))

-- ---- all of it

-- the leaf that is open
abbrev pub leaf_in : Opening → OpenLeaf
leaf_in (At leaf) = leaf
leaf_in (Inside c kids inner) = leaf_in inner

-- an open leaf with as many of these lines as it takes
abbrev pub with_lines : Constructs → OpenLeaf → List TextLine → OpenLeaf
with_lines on leaf [] = leaf
with_lines on leaf (line ∷ others) =
    unwrap_or (option_map (λ (t : Tree). with_lines on (leaf_in t.now) others) (takes on leaf line.content (beside_line Whitespace line))) leaf

-- the lines of indented code, without the blank ones after them
abbrev pub own_code : OpenLeaf → List BlockLine
own_code (Indented ls pending) = ls
own_code leaf = []

-- the lines of the indented code that begins with the first of these
abbrev pub code_block : Constructs → List TextLine → List BlockLine
code_block on [] = []
code_block on (line ∷ others) = own_code (with_lines on (leaf_in (indented_tree line.content (beside_line Whitespace line)).now) others)

-- the events of what a line holds after its indent, if that is anything
abbrev pub chunk_if : Bool → Point → Point → List Event
chunk_if true p q = event Enter names.CodeFlowChunk p None ∷ event Exit names.CodeFlowChunk q None ∷ []
chunk_if false p q = []

-- the events of a line: up to four columns, and what it holds after them
abbrev pub line_events : List ℕ → Point → Point → Point → List Event
line_events codes p mid end = white_events codes p mid ++ chunk_if (is_filled (line_of (outdent 4 codes))) mid end

-- from the line ending that these codes begin with, these are the events of so many further lines, and these codes are left then
pub data CodeLines (text : Text) : ℕ → List ℕ → Point → List Event → Point → List ℕ → Type 0 where
  over : {codes : List ℕ} {p : Point} → CodeLines text 0 codes p [] p codes
  further : {n code : ℕ} {codes left : List ℕ} {p q mid r end : Point} {events : List Event} → text.byte (text.start p) ≡ Some (as_byte line_feed q)
      → SeesColumns text q codes → SeesColumns text mid (outdent 4 codes) → LineEnds text r → SeesColumns text r (after_line codes)
      → CodeLines text n (after_line codes) r events end left
      → CodeLines text (n + 1) (code ∷ codes) p
      (ending_events (text.start p) q ++ (line_events codes (text.start q) (text.start mid) (text.start r) ++ events)) end left

-- an attempt fails where the definition has no code; otherwise it goes well, with the events of as many lines as the definition has, up to the end of the last;
-- then no paragraph is interrupted by what comes next
abbrev pub CodeVerdict : {T : Type 0} → InLine T → Bool → Type 0
CodeVerdict here true =
    (d : Config Flows) × (columns : ℕ) × (mid : Point) × (first : Point) × (end : Point) × (count : ℕ) × (inside : List Event) × (left : List ℕ)
    × Reads here.context here.text (at_hand here) (retry state_block.CodeIndentedStart) d true
    × Leaves here.text (at_hand here) d (record here.config.tokenize_state { size_c = columns })
    (event Enter names.CodeIndented (here.text.start here.place) None
    ∷ (line_events here.codes (here.text.start here.place) (here.text.start mid) (here.text.start first)
    ++ (inside ++ event Exit names.CodeIndented (here.text.start end) None ∷ []))) end
    × SeesColumns here.text mid (outdent 4 here.codes) × CodeLines here.text count (after_line here.codes) first inside end left
    × (suc count ≡ length (code_block here.context.options.constructs (code_lines here.codes))) × (d.interrupt ≡ false)
    × LineEnds here.text end × SeesColumns here.text end left
CodeVerdict here false = (d : Config Flows) × Reads here.context here.text (at_hand here) (retry state_block.CodeIndentedStart) d false

-- outside containers, at the start of a line that isn't blank, in a text that skips nothing twice, code is read exactly if no paragraph is interrupted and the
-- definition says so
abbrev pub CodeIndentedWholeVerdict : Type 0 → Type 0
CodeIndentedWholeVerdict T = AtColumns T (λ here. SkipsOnce here.text → here.config.lazy ≡ false → here.config.pierce ≡ false → is_blank (line here) ≡ false
    → CodeVerdict here (not here.config.interrupt && starts_code_indented here.context.options.constructs (line here)))
