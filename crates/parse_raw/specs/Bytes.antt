-- Bytes of the tokens of raw blocks: of breaks and fences.
use Rattle.std.specs.Prelude.{◌≡◌, ℕ, Bool, true, false, ◌==◌, ◌||◌, List, Some, codes, slice_index}
use Rattle.std.specs.List.{list_all}
use Rattle.markdown_options.specs.declared.line_ending.LineEnding.{LineEnding}
use Rattle.engine_events.specs.declared.event.Name.{Name}
use Rattle.definition_text.specs.Columns.{is_white}
use Rattle.definition_text.specs.Lines.{ending_text}
use Rattle.definition_text.specs.Runs.{after_run}
use Rattle.definition_block.specs.Frontmatter.{is_metadata_fence}
use Rattle.event_tokens.specs.Tokens.{is_among, is_token}

-- an event of a name may be the ending of a line
abbrev pub IsEndingName : Name → Type 0
IsEndingName name = (ending : LineEnding) → is_token name (ending_text (Some ending)) ≡ true

-- a marker of a break, and bytes of a break by it: the marker, spaces and tabs (CommonMark 4.1)
abbrev pub break_marks : List ℕ
break_marks = codes "*-_"

abbrev pub AreBreak : ℕ → List ℕ → Type 0
AreBreak marker bytes = (is_among break_marks marker ≡ true) × (list_all (λ b. (b == marker) || is_white b) bytes ≡ true)

-- the markers of fences of math, or of code (CommonMark 4.5)
abbrev pub fence_marks : Bool → List ℕ
fence_marks true = codes "$"
fence_marks false = codes "`~"

-- bytes of a closing fence: its first byte, again and again, and then only spaces and tabs
abbrev pub AreClosing : Bool → List ℕ → Type 0
AreClosing math bytes = (is_among (fence_marks math) (slice_index bytes 0) ≡ true) × (list_all is_white (after_run (slice_index bytes 0) bytes) ≡ true)

-- bytes of a fence of frontmatter
abbrev pub AreMetadataFence : List ℕ → Type 0
AreMetadataFence bytes = (byte : ℕ) × (is_among (codes "-+") byte ≡ true) × (is_metadata_fence byte bytes ≡ true)
