-- Contents in a walk, over all of their lines: what is ahead, and what is written of it (CommonMark 4.8).
use Rattle.std.specs.Prelude.{◌≡◌, ℕ, ◌+◌, ◌^◌, ◌<◌, ◌≤◌, Bool, true, false, ◌&&◌, List, [], ◌∷◌, ◌++◌, Option, if◌then◌else◌, length, map}
use Rattle.std.specs.List.{fold, list_any}
use Rattle.markdown_options.specs.LineEndings.{ending_bytes}
use Rattle.markdown_options.specs.declared.line_ending.LineEnding.{LineEnding}
use Rattle.definition_text.specs.BlockLines.{BlockLine, last_ending_or}
use Rattle.definition_text.specs.Columns.{block_codes, code_byte, is_blank, is_white}
use Rattle.definition_text.specs.Content.{at_line_start, content_codes, line_ending_code}
use Rattle.definition_text.specs.Lines.{ends_line, ending_text}
use Rattle.definition_block.specs.Tree.{rest_line}
use Rattle.engine_events.specs.declared.event.Name.{Name}
use Rattle.event_grammar.specs.InGrammar.{kids_of, node_name}
use Rattle.event_grammar.specs.Trees.{Node, Nodes, Nil, Cons}
use Rattle.event_meaning.specs.Children.{text_of}
use Rattle.parse_output.specs.Ends.{end_at}
use Rattle.parse_output.specs.Joined.{AreJoined, end_edge, flat_text}
use Rattle.parse_output.specs.Written.{Enters, Exits, IsInOrder, Writes, end_in}
use Rattle.parse_laid.specs.Places.{LineRest, Place, Prefixed, Between, Within, AtEnding, line_left}
use Rattle.parse_laid.specs.Leaves.{AreTaken}
use Rattle.parse_lines.specs.declared.walk.Walk.{Walk}
use Rattle.parse_lines.specs.Content.{StandsInLine, end_after}
use Rattle.parse_lines.specs.Ends.{IsWrittenToRest}
use Rattle.parse_lines.specs.Quiet.{AreQuiet}
use Rattle.parse_lines.specs.Standing.{StandsAt, around, standing}
use Rattle.parse_lines.specs.Steps.{HasSameOpen}

-- ---- what is ahead

-- the bytes of a content from a place in a line on: those left of the line, its ending, and the lines after it
abbrev pub content_from : List ℕ → Option LineEnding → List BlockLine → List ℕ
content_from line ending [] = line
content_from line ending (next ∷ others) = line ++ (ending_text ending ++ content_from (map code_byte next.codes) next.ending others)

-- A later line of a content is what the open containers leave of a line of the text, whether all go on or not. It isn't blank.
abbrev pub IsRestLine : Prefixed → BlockLine → Type 0
IsRestLine here line = (is_blank (line_left here).rest ≡ false) × (line ≡ rest_line (line_left here).rest (line_left here).beside)

-- where a content ends: the ending of its last line, and how many bytes of that line are after the content
pub record Stop : Type 0 where
  pub place : Place
  pub behind : ℕ

-- a walk stands in a content, of which these bytes are ahead, and all before them is written
pub record StandsInContent {A : Type 0} (text content : List ℕ) (stop : Stop) (w : Walk A) : Type 0 where
  pub line : List ℕ
  pub ending : Option LineEnding
  pub others : List BlockLine
  pub left : List LineRest
  pub after : List LineRest
  pub parts : content ≡ content_from line ending others
  pub dark : list_any ends_line line ≡ false
  pub stands : StandsInLine text line w
  pub at : StandsAt text (AtEnding ending left) (standing w)
  pub ahead : AreTaken w.on.now (around (standing w)) IsRestLine others (Between left) (Between after)
  pub last : stop.place ≡ AtEnding (last_ending_or ending others) after
  -- the content has all of each line, but for the last where it has one line
  pub full : 0 < length others → (end_after (end_in w.out) (length line) ≡ end_at w.line_end 0) × (stop.behind ≡ 0)
  pub end : length others ≡ 0 → (end_after (end_in w.out) (length line)).index + stop.behind ≡ w.line_end
  -- of a tab that is cut, all columns are ahead
  pub columns : (end_in w.out).owed ≤ length line
  pub fits : w.place + length content < 2 ^ 64

-- A content begins where the walk is, with what is left of the line, and nothing is written.
abbrev pub BeginsContent : {A : Type 0} → Walk A → Walk A → Type 0
BeginsContent old new =
    (text : List ℕ) (here : LineRest) (left after : List LineRest) (others : List BlockLine) → StandsAt text (Within here left) (standing old)
    → IsWrittenToRest old → IsInOrder text old.out → AreTaken old.on.now (around (standing old)) IsRestLine others (Between left) (Between after)
    → StandsInContent text (content_from (map code_byte (block_codes here.rest)) here.beside.ending others)
    (record { place = AtEnding (last_ending_or here.beside.ending others) after; behind = 0 }) new × (new.place ≡ 0) × (new.out ≡ old.out)

-- these bytes are after an ending: no LF is after CR, which would be one ending
abbrev pub IsApart : LineEnding → List ℕ → Type 0
IsApart ending content = content_codes (ending_bytes ending ++ content) ≡ line_ending_code ending ∷ content_codes content

-- not inside of a tab
abbrev pub IsWhole : {A : Type 0} → Walk A → Type 0
IsWhole w = (end_in w.out).owed ≡ 0

-- ---- what is written, as text: lines may have other spaces and tabs at their starts, since containers are indented there

-- bytes without the spaces and tabs at the starts of lines, where the first byte is after such a start or isn't
abbrev pub unindented : Bool → List ℕ → List ℕ
unindented start [] = []
unindented start (b ∷ bs) = if start && is_white b then unindented true bs else b ∷ unindented (at_line_start start b) bs

-- whether only spaces and tabs are between the last line ending and the end of these bytes
abbrev pub ends_at_start : Bool → List ℕ → Bool
ends_at_start start bs = fold at_line_start start bs

-- the same text, but for the spaces and tabs at the starts of lines
pub record IsSameText (start : Bool) (front region : List ℕ) : Type 0 where
  pub same : unindented start front ≡ unindented start region
  pub end : ends_at_start start front ≡ ends_at_start start region

-- inside of a tab, a line starts
abbrev pub MayStart : {A : Type 0} → Bool → Walk A → Type 0
MayStart start w = 0 < (end_in w.out).owed → start ≡ true

-- nodes have the text of these bytes, without the prefixes of quotes in them
pub record HasText {A : Type 0} (text front : List ℕ) (ns : Nodes) (start : Bool) (new : Walk A) : Type 0 where
  pub same : IsSameText start front (flat_text text ns)
  pub may_start : MayStart (ends_at_start start front) new

-- nodes are written for the first of these bytes, and the others are ahead
pub record WritesInContent {A : Type 0} (text front : List ℕ) (ns : Nodes) (content : List ℕ) (stop : Stop) (old new : Walk A) : Type 0 where
  pub writes : Writes text old.out new.out ns
  pub stands : StandsInContent text content stop new
  pub around : HasSameOpen (standing old) (standing new)
  pub place : new.place ≡ old.place + length front
  pub joined : AreJoined (end_edge text (end_in old.out)) ns (end_edge text (end_in new.out))
  pub has_text : (start : Bool) → MayStart start old → HasText text front ns start new

-- an event is entered before these bytes
pub record EntersInContent {A : Type 0} (text : List ℕ) (name : Name) (content : List ℕ) (stop : Stop) (old new : Walk A) : Type 0 where
  pub enters : Enters text name old.out new.out
  pub stands : StandsInContent text content stop new
  pub around : HasSameOpen (standing old) (standing new)
  pub place : new.place ≡ old.place
  pub end : end_in new.out ≡ end_in old.out

-- an event is exited before these bytes
pub record ExitsInContent {A : Type 0} (text : List ℕ) (name : Name) (content : List ℕ) (stop : Stop) (old new : Walk A) : Type 0 where
  pub exits : Exits text name old.out new.out
  pub stands : StandsInContent text content stop new
  pub around : HasSameOpen (standing old) (standing new)
  pub place : new.place ≡ old.place
  pub end : end_in new.out ≡ end_in old.out

-- the ending of a line is written by a name, and on the next line nodes that spell nothing
pub record WritesEndingIn {A : Type 0} (text : List ℕ) (name : Name) (ending : LineEnding) (content : List ℕ) (stop : Stop) (old new : Walk A) : Type 0 where
  pub node : Node
  pub named : node_name node ≡ name
  pub empty : kids_of node ≡ Nil
  pub bytes : text_of text node ≡ ending_bytes ending
  pub quiet : Nodes
  pub are_quiet : AreQuiet quiet
  pub writes : WritesInContent text (ending_bytes ending) (Cons node quiet) content stop old new
