-- Fenced code (CommonMark 4.5), and blocks of math, which are the same with dollars.
use Rattle.std.specs.Prelude.{ℕ, Bool, true, false, ◌==◌, List, [], ◌∷◌, drop, length, slice_index, take}
use Rattle.std.specs.List.{position_or_len}
use Rattle.markdown_options.specs.declared.configuration.Constructs.{Constructs}
use Rattle.definition_text.specs.Ascii.{dollar}
use Rattle.definition_text.specs.Columns.{Code, bare, bytes_of, indent, is_white, trim}
use Rattle.definition_text.specs.Runs.{run}
use Rattle.definition_block.specs.Container.{Container}
use Rattle.definition_inline.specs.CharacterReference.{Names}
use Rattle.definition_page.specs.Read.{Reading}
use Rattle.engine_events.specs.declared.event.Name.{Name}
use Rattle.engine_events.specs.declared.event.Name.TheVariants as n
use Rattle.event_definition.specs.Pieces.{Pieces, Nil, around, join_all, token}
use Rattle.event_definition.specs.Context.{names_of, on_of}
use Rattle.event_definition.specs.Containers.{next_line}
use Rattle.event_definition.specs.HeadingSetext.{run_pieces}
use Rattle.event_definition.specs.RawLines.{raw_lines}
use Rattle.event_definition.specs.Strings.{named_string}
use Rattle.event_definition.specs.Written.{Left, Written, and_then, ended, inside, line_written, rest_of, white, white_ahead, written}

-- the names of the block, of a fence, of its run, and of a line
pub record FenceNames : Type 0 where
  pub block : Name
  pub fence : Name
  pub sequence : Name
  pub chunk : Name

-- those of math, or of code
abbrev pub fence_names : Bool → FenceNames
fence_names true = record { block = n.MathFlow; fence = n.MathFlowFence; sequence = n.MathFlowFenceSequence; chunk = n.MathFlowChunk }
fence_names false = record { block = n.CodeFenced; fence = n.CodeFencedFence; sequence = n.CodeFencedFenceSequence; chunk = n.CodeFlowChunk }

-- ---- fences

-- the info of code, which ends at white space, and what follows it; math has no info
abbrev pub info_pieces : Constructs → Names → Bool → List Code → Pieces
info_pieces on names true text = named_string on names n.MathFlowFenceMeta text
info_pieces on names false text =
    let size = position_or_len is_white text in
    let after = drop size text in
    join_all (named_string on names n.CodeFencedFenceInfo (take size text) ∷ white_ahead after ∷ named_string on names n.CodeFencedFenceMeta (bare after) ∷ [])

-- the fence that opens a block, which these bytes of a line are
abbrev pub opening_pieces : Reading → Bool → List Code → Pieces
opening_pieces r math bytes =
    let size = run (slice_index bytes 0) bytes in
    let after = drop size bytes in
    let text = trim after in
    around (fence_names math).fence (join_all (
    token (fence_names math).sequence (take size bytes) ∷ white_ahead after
    ∷ info_pieces (on_of r) (names_of r) math text ∷ token n.SpaceOrTab (drop (length text) (bare after)) ∷ []
    ))

abbrev pub closing_written : FenceNames → Left → Written
closing_written names left = and_then (white left) (λ l. line_written (around names.fence (run_pieces names.sequence (bytes_of (rest_of l)))) l)

-- ---- blocks

-- the closing fence; where there is none, at the top the ending of the last line
abbrev pub fence_end : Reading → List Container → FenceNames → Bool → Left → Written
fence_end r outer names true left = and_then (next_line (on_of r) outer left) (closing_written names)
fence_end r [] names false left = ended n.LineEnding left
fence_end r (c ∷ cs) names false left = written Nil left

-- a block of math, or of code, with so many lines; each may lose these columns of white space
abbrev pub fenced_block : Reading → List Container → Bool → Bool → ℕ → ℕ → Left → Written
fenced_block r outer math closed count columns left =
    let names = fence_names math in
    inside names.block (and_then
    (and_then (line_written (opening_pieces r math (bytes_of (rest_of left))) left) (raw_lines (on_of r) outer names.chunk columns count))
    (fence_end r outer names closed))

-- the same after the white space before its opening fence; math begins with a dollar
abbrev pub fenced_written : Reading → List Container → Bool → ℕ → Left → Written
fenced_written r outer closed count left =
    and_then (white left) (λ l. fenced_block r outer (slice_index (rest_of l) 0 == dollar) closed count (indent (rest_of left)) l)
