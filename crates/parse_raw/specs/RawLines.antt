-- What is written of the lines of a raw block: code, math, HTML (CommonMark 4.4 to 4.6); and of frontmatter.
use Rattle.std.specs.Prelude.{◌≡◌, ◌⊎◌, ℕ, ◌<◌, true, false, List, [], ◌∷◌, ◌++◌, Option, None, Some, length, map}
use Rattle.std.specs.List.{list_all}
use Rattle.markdown_options.specs.declared.line_ending.LineEnding.{LineEnding}
use Rattle.engine_events.specs.Names.{is_listed, same_name}
use Rattle.engine_events.specs.declared.event.Name.{Name}
use Rattle.engine_events.specs.declared.event.Name.TheVariants as n
use Rattle.definition_text.specs.BlockLines.{BlockLine, last_ending_or}
use Rattle.definition_text.specs.Columns.{Code, Rest, block_codes, bytes_of, code_byte}
use Rattle.definition_block.specs.Tree.{rest_line}
use Rattle.event_grammar.specs.declared.slot.Between.TheVariants.{Lines}
use Rattle.event_grammar.specs.declared.slot.Form.TheVariants.{Plain}
use Rattle.event_grammar.specs.declared.slot.Slot.{Slot}
use Rattle.event_grammar.specs.Slots.{take_child}
use Rattle.parse_slots.specs.Left.{Fill, TakesNoBetween, took}
use Rattle.event_grammar.specs.References.{named}
use Rattle.event_grammar.specs.Trees.{Nodes}
use Rattle.event_meaning.specs.Children.{child, ends_in}
use Rattle.event_meaning.specs.Raw.{Chunk, RawPart, raw_parts}
use Rattle.parse_output.specs.Ends.{end_at}
use Rattle.parse_output.specs.Written.{IsInOrder, Writes}
use Rattle.parse_references.specs.Sound.{asked_names}
use Rattle.parse_alike.specs.Raw.{chunk, end_part, has_codes, is_there}
use Rattle.parse_laid.specs.Leaves.{AreTaken}
use Rattle.parse_laid.specs.Places.{AtEnding, Between, InAll, LineRest, Prefixed, Within}
use Rattle.event_definition.specs.Written.{Left, Written, and_then, rest_of, up_to, whole_rest}
use Rattle.parse_pieces.specs.Written.{WritesPieces}
use Rattle.parse_lines.specs.Pieces.{left_in_line}
use Rattle.parse_lines.specs.declared.walk.Walk.{Walk}
use Rattle.parse_lines.specs.Ends.{IsWrittenToRest, written_to}
use Rattle.parse_lines.specs.Standing.{StandsAt, around, standing}
use Rattle.parse_lines.specs.Steps.{HasSameOpen}

-- no definition is in these, and none is a fence
pub record AreRaw (ns : Nodes) : Type 0 where
  pub definitions : named n.Definition ns ≡ []
  pub code : child n.CodeFencedFence ns ≡ None
  pub math : child n.MathFlowFence ns ≡ None

-- a name of what may stand there
pub record IsRawName (name : Name) : Type 0 where
  pub no_data : same_name name n.Data ≡ false
  pub no_definition : same_name name n.Definition ≡ false
  pub no_code : same_name name n.CodeFencedFence ≡ false
  pub no_math : same_name name n.MathFlowFence ≡ false
  pub unasked : is_listed asked_names name ≡ false

-- Any number of chunks of a name may stand in what is left of a row, and lines may end between them.
pub record TakesChunks (name : Name) (slots : List Slot) : Type 0 where
  pub chunk : take_child slots name ≡ Some (took Plain slots)
  pub between : TakesNoBetween slots

-- ---- the parts of lines

-- what is left of a line of HTML, if there is something
abbrev pub html_chunk : List Code → List RawPart
html_chunk [] = []
html_chunk (c ∷ cs) = Chunk (bytes_of (c ∷ cs)) ∷ []

-- what is left of a line, by the name of its node: in code with a space for each column that is left of a tab
abbrev pub chunk_parts : Name → List Code → List RawPart
chunk_parts n.CodeFlowChunk codes = chunk (map code_byte codes)
chunk_parts n.MathFlowChunk codes = chunk (map code_byte codes)
chunk_parts n.HtmlFlowData codes = html_chunk codes
chunk_parts name codes = []

-- the lines after one with this ending, each with the ending before it
abbrev pub parts_after : Name → Option LineEnding → List BlockLine → List RawPart
parts_after name ending [] = []
parts_after name ending (line ∷ ls) = end_part ending ++ (chunk_parts name line.codes ++ parts_after name line.ending ls)

-- the name of what is left of a line
abbrev pub IsChunkName : Name → Type 0
IsChunkName name = (name ≡ n.CodeFlowChunk) ⊎ ((name ≡ n.MathFlowChunk) ⊎ ((name ≡ n.HtmlFlowData) ⊎ (name ≡ n.FrontmatterChunk)))

-- ---- lines

-- what is cut from a rest of a line, and what is left of it
abbrev pub cut_line : Name → (Rest → Rest) → Left → Written
cut_line name cut left = and_then (up_to n.SpaceOrTab (cut (rest_of left)) left) (whole_rest name)

-- a line that is in all of the containers around it, and loses some of its columns
abbrev pub IsCutLine : (Rest → Rest) → Prefixed → BlockLine → Type 0
IsCutLine cut here line = (own : LineRest) × (here ≡ InAll own) × (line ≡ rest_line (cut own.rest) own.beside)

-- what is left of a line is written, without some of its columns, up to the ending of the line
pub record WritesCut {A : Type 0} (text : List ℕ) (name : Name) (cut : Rest → Rest) (here : LineRest) (left : List LineRest) (old new : Walk A) : Type 0 where
  pub nodes : Nodes
  pub writes : Writes text old.out new.out nodes
  pub raw : AreRaw nodes
  pub parts : raw_parts text nodes ≡ chunk_parts name (block_codes (cut here.rest))
  pub stands : StandsAt text (AtEnding here.beside.ending left) (standing new)
  pub same : standing new ≡ standing old
  pub written : written_to new ≡ end_at new.line_end 0
  -- where all of a line is cut, white space is last
  pub spaced : 0 < length here.rest → has_codes (block_codes (cut here.rest)) ≡ false → ends_in n.SpaceOrTab false nodes ≡ true
  -- they are chunks of a row
  pub fill : (slots : List Slot) → TakesChunks name slots → Fill Lines slots nodes slots
  -- as the definition has it
  pub exact : WritesPieces text (cut_line name cut (left_in_line (standing old))).pieces old.out new.out

-- From a walk within a line, what is left of it is written so.
abbrev pub WritesCutLine : {A : Type 0} → Name → (Rest → Rest) → Walk A → Walk A → Type 0
WritesCutLine name cut old new =
    (text : List ℕ) (here : LineRest) (left : List LineRest) → IsChunkName name → StandsAt text (Within here left) (standing old) → IsWrittenToRest old
    → IsInOrder text old.out → WritesCut text name cut here left old new

-- these lines are written after a line with this ending, up to the ending of the last of them
pub record WritesLines {A : Type 0} (text : List ℕ) (name : Name) (first : Option LineEnding) (ls : List BlockLine) (after : List LineRest) (old new : Walk A)
    : Type 0 where
  pub nodes : Nodes
  pub writes : Writes text old.out new.out nodes
  pub raw : AreRaw nodes
  pub parts : raw_parts text nodes ≡ parts_after name first ls
  pub stands : StandsAt text (AtEnding (last_ending_or first ls) after) (standing new)
  pub around : HasSameOpen (standing old) (standing new)
  pub written : written_to new ≡ end_at new.line_end 0
  -- outside of containers each line holds something or has an ending, unless white space is last
  pub there : (standing old).outermost ≡ [] → (list_all is_there ls ≡ true) ⊎ ((last_ending_or first ls ≡ None) × (ends_in n.SpaceOrTab false nodes ≡ true))
  -- they are chunks of a row
  pub fill : (slots : List Slot) → TakesChunks name slots → Fill Lines slots nodes slots

-- From a walk at the ending of a line, the next lines are written so, if these are their count.
abbrev pub WritesCutLines : {A : Type 0} → Name → (Rest → Rest) → ℕ → Walk A → Walk A → Type 0
WritesCutLines name cut count old new =
    (text : List ℕ) (first : Option LineEnding) (ls : List BlockLine) (left after : List LineRest) → count ≡ length ls → IsChunkName name
    → StandsAt text (AtEnding first left) (standing old) → written_to old ≡ end_at old.line_end 0 → IsInOrder text old.out
    → AreTaken old.on.now (around (standing old)) (IsCutLine cut) ls (Between left) (Between after) → WritesLines text name first ls after old new
