-- What the states of the opening line of frontmatter come to (in neither standard).
use Rattle.std.specs.Prelude.{◌≡◌, ℕ, ◌^◌, ◌<◌, Bool, true, false, not, ◌==◌, ◌&&◌, ◌||◌, if◌then◌else◌, List, [], ◌∷◌, ◌++◌, drop, length, Option, None, Some}
use Rattle.definition_block.specs.Frontmatter.{after_frontmatter, is_metadata_fence}
use Rattle.definition_text.specs.Lines.{TextLine}
use Rattle.definition_text.specs.Ascii.{hyphen, line_feed, plus}
use Rattle.engine_events.specs.Events.{event}
use Rattle.engine_events.specs.declared.event.Event.{Event}
use Rattle.engine_events.specs.declared.event.Kind.TheVariants.{Enter, Exit}
use Rattle.engine_events.specs.declared.event.Name.TheVariants as names
use Rattle.engine_events.specs.declared.place.Point.{Point}
use Rattle.engine_states.specs.declared.state.Block.TheVariants as state_block
use Rattle.markdown_engine.specs.KeptState.{KeptState}
use Rattle.markdown_engine.specs.Reading.{Config}
use Rattle.markdown_engine.specs.VirtualText.{Text, as_byte, is_feed}
use Rattle.state_table.specs.BlockWords.{retry}
use Rattle.state_verdicts.specs.Codes.{Sees}
use Rattle.state_verdicts.specs.Lines.{LineEnds, SkipsOnce, after_line, code_lines, has_ending, is_filled, line_of}
use Rattle.state_verdicts.specs.Stretch.{Stretch}
use Rattle.state_verdicts.specs.Machines.{Leaves}
use Rattle.state_verdicts.specs.WhiteSpace.{ending_events, white_events}
use Rattle.state_verdicts.specs.DocumentVerdicts.{AtCodes, AtPlaces, GoesOn, InDocument, Reads, at_hand, line}

-- the byte of the fence of metadata that a line is, if it is one
abbrev pub metadata_byte : List ℕ → Option ℕ
metadata_byte line = if is_metadata_fence hyphen line then Some hyphen else (if is_metadata_fence plus line then Some plus else None)

-- the events of the opening line: three bytes from a place to another, and then its spaces and tabs
abbrev pub opening_events : List ℕ → Point → Point → Point → List Event
opening_events rest p mid end =
    event Enter names.Frontmatter p None ∷ event Enter names.FrontmatterFence p None ∷ event Enter names.FrontmatterSequence p None
    ∷ event Exit names.FrontmatterSequence mid None ∷ (white_events rest mid end ++ event Exit names.FrontmatterFence end None ∷ [])

-- what is kept: the byte of the fence, that there are three, and how many columns may follow
abbrev pub fencing : ℕ → ℕ → KeptState → KeptState
fencing byte columns k = record k { marker = byte; size = 3; size_c = columns }

-- an attempt fails where no frontmatter may open; otherwise it goes on at the end of the line, whose events it has
abbrev pub OpeningVerdict : {T V : Type 0} → InDocument T V → Option ℕ → Type 0
OpeningVerdict {V = V} here None = (d : Config V) × Reads here (at_hand here) (retry state_block.FrontmatterStart) d false
OpeningVerdict {V = V} here (Some byte) =
    (d : Config V) × (columns : ℕ) × (mid : Point) × (end : Point)
    × GoesOn here (at_hand here) (retry state_block.FrontmatterStart) d (retry state_block.FrontmatterContentEnd)
    × Leaves here.text (at_hand here) d (fencing byte columns here.config.tokenize_state)
    (opening_events (drop 3 here.codes) (here.text.start here.place) (here.text.start mid) (here.text.start end)) end
    × Sees here.text mid (drop 3 here.codes) × LineEnds here.text end × Sees here.text end (after_line here.codes)

-- at the start of a text, frontmatter may open exactly if it is on, and the line is a fence of metadata that has an ending
abbrev pub FrontmatterVerdict : Type 0 → Type 0 → Type 0
FrontmatterVerdict T V = AtPlaces T V (λ here. OpeningVerdict here
    (if here.context.options.constructs.frontmatter && has_ending here.codes then metadata_byte (line here) else None))

-- ---- the closing line

-- a byte of which there are fences of metadata
abbrev pub is_metadata_byte : ℕ → Bool
is_metadata_byte b = (b == hyphen) || (b == plus)

-- the events of the closing line: three bytes from a place to another, and then its spaces and tabs
abbrev pub closing_events : List ℕ → Point → Point → Point → List Event
closing_events rest p mid end =
    event Enter names.FrontmatterFence p None ∷ event Enter names.FrontmatterSequence p None
    ∷ event Exit names.FrontmatterSequence mid None ∷ (white_events rest mid end ++ event Exit names.FrontmatterFence end None ∷ [])

-- what an attempt that fails leaves: of what is kept, only how many bytes were counted and how many columns may follow have changed
pub record LeavesKept {V : Type 0} (c d : Config V) : Type 0 where
  pub size : ℕ
  pub columns : ℕ
  pub kept : d.tokenize_state ≡ record c.tokenize_state { size = size; size_c = columns }
  pub map : d.map ≡ c.map
  pub resolvers : d.resolvers ≡ c.resolvers

-- an attempt goes well exactly if this holds, with the events of the line, up to its end
abbrev pub ClosingVerdict : {T V : Type 0} → InDocument T V → Bool → Type 0
ClosingVerdict {V = V} here true =
    (d : Config V) × (columns : ℕ) × (mid : Point) × (end : Point) × Reads here (at_hand here) (retry state_block.FrontmatterCloseStart) d true
    × Leaves here.text (at_hand here) d (record here.config.tokenize_state { size = 3; size_c = columns })
    (closing_events (drop 3 here.codes) (here.text.start here.place) (here.text.start mid) (here.text.start end)) end
    × (is_feed d.previous ≡ false) × Sees here.text mid (drop 3 here.codes) × LineEnds here.text end × Sees here.text end (after_line here.codes)
ClosingVerdict {V = V} here false =
    (d : Config V) × Reads here (at_hand here) (retry state_block.FrontmatterCloseStart) d false × LeavesKept here.config d

-- at the start of a line within frontmatter, its closing fence is read exactly if the line is a fence of the byte that opened it
abbrev pub FrontmatterClosingVerdict : Type 0 → Type 0 → Type 0
FrontmatterClosingVerdict T V = AtPlaces T V (λ here. is_metadata_byte here.config.tokenize_state.marker ≡ true
    → ClosingVerdict here (is_metadata_fence here.config.tokenize_state.marker (line here)))

-- ---- all of it

-- a byte of a line
abbrev pub is_inner_byte : ℕ → Bool
is_inner_byte b = not (b == line_feed)

-- the events of what a line holds
abbrev pub chunk_events : Point → Point → List Event
chunk_events p q = event Enter names.FrontmatterChunk p None ∷ event Exit names.FrontmatterChunk q None ∷ []

-- from the start of a line to its end these are the events of what it holds; of an empty line there are none
pub data ContentAt (text : Text) : Point → List Event → Point → Type 0 where
  blank : {p : Point} → LineEnds text p → ContentAt text p [] p
  chunk : {b n : ℕ} {p q r : Point} → text.byte (text.start p) ≡ Some (as_byte b q) → is_inner_byte b ≡ true → Stretch text is_inner_byte n q r
      → ContentAt text p (chunk_events (text.start p) (text.start r)) r

-- from the line ending that these codes begin with, these are the events of the lines up to the end of the next fence of the byte, and these codes are left then
pub data MetadataLines (text : Text) (byte : ℕ) : List ℕ → Point → List Event → Point → List ℕ → Type 0 where
  closes : {code : ℕ} {codes : List ℕ} {p q mid end : Point} → text.byte (text.start p) ≡ Some (as_byte line_feed q) → Sees text q codes
      → is_metadata_fence byte (line_of codes) ≡ true → Sees text mid (drop 3 codes) → LineEnds text end → MetadataLines text byte (code ∷ codes) p
      (ending_events (text.start p) q ++ closing_events (drop 3 codes) (text.start q) (text.start mid) (text.start end)) end (after_line codes)
  further : {code : ℕ} {codes left : List ℕ} {p q r end : Point} {held events : List Event} → text.byte (text.start p) ≡ Some (as_byte line_feed q)
      → Sees text q codes → is_metadata_fence byte (line_of codes) ≡ false → ContentAt text q held r → Sees text r (after_line codes)
      → MetadataLines text byte (after_line codes) r events end left
      → MetadataLines text byte (code ∷ codes) p (ending_events (text.start p) q ++ (held ++ events)) end left

-- the events after the closing fence: the end of the frontmatter, and the line ending, if there is one
abbrev pub after_events : Bool → Point → Point → List Event
after_events true p q = event Exit names.Frontmatter p None ∷ ending_events p q
after_events false p q = event Exit names.Frontmatter p None ∷ []

-- an attempt fails where the definition has no frontmatter; otherwise it goes well, with the events of all its lines, and stands before the lines that the
-- definition has after it
abbrev pub WholeVerdict : {T V : Type 0} → InDocument T V → Option (List TextLine) → Type 0
WholeVerdict {V = V} here None = (d : Config V) × Reads here (at_hand here) (retry state_block.FrontmatterStart) d false
WholeVerdict {V = V} here (Some others) =
    (d : Config V) × (byte : ℕ) × (columns : ℕ) × (mid : Point) × (first : Point) × (last : Point) × (inside : List Event) × (left : List ℕ)
    × Reads here (at_hand here) (retry state_block.FrontmatterStart) d true
    × (d.events ≡ here.config.events ++ (opening_events (drop 3 here.codes) (here.text.start here.place) (here.text.start mid) (here.text.start first)
    ++ (inside ++ after_events (is_filled left) (here.text.start last) d.point)))
    × (metadata_byte (line here) ≡ Some byte) × Sees here.text mid (drop 3 here.codes)
    × MetadataLines here.text byte (after_line here.codes) first inside last left
    × (d.tokenize_state ≡ fencing byte columns here.config.tokenize_state) × (d.map ≡ here.config.map) × (d.resolvers ≡ here.config.resolvers)
    × Sees here.text d.point (drop 1 left) × (code_lines (drop 1 left) ≡ others)

-- at the start of a text that skips nothing twice and has fewer than 2^62 codes, frontmatter is read exactly if the definition has it
abbrev pub FrontmatterWholeVerdict : Type 0 → Type 0 → Type 0
FrontmatterWholeVerdict T V = AtCodes T V (λ here. SkipsOnce here.text → length here.codes < 2 ^ 62 → here.config.tokenize_state.connect ≡ false
    → WholeVerdict here (after_frontmatter here.context.options.constructs (code_lines here.codes)))
