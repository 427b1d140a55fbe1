-- What is written of raw text, line by line (CommonMark 6.1 and 6.6).
use Rattle.std.specs.Prelude.{◌≡◌, ◌⊎◌, ◌≤◌, ◌<◌, ℕ, Bool, true, false, ◌&&◌, ◌||◌, ◌==◌, List, [], ◌∷◌, ◌++◌, Some, drop, length, map, take}
use Rattle.std.specs.Str.{IsCharBoundary, IsUtf8}
use Rattle.engine_events.specs.Names.{is_listed, same_name}
use Rattle.engine_events.specs.declared.event.Name.{Name}
use Rattle.engine_events.specs.declared.event.Name.TheVariants as n
use Rattle.definition_text.specs.Ascii.{backtick, dollar}
use Rattle.definition_text.specs.Columns.{is_white}
use Rattle.definition_text.specs.Content.{content_codes}
use Rattle.definition_inline.specs.CharacterReference.{Names}
use Rattle.definition_inline.specs.CodeText.{code_space}
use Rattle.definition_inline.specs.Inline.{InlineLeaf, Code, Math}
use Rattle.event_grammar.specs.declared.slot.Between.{Between}
use Rattle.event_grammar.specs.declared.slot.Form.TheVariants.{Plain}
use Rattle.event_grammar.specs.declared.slot.Slot.{Slot}
use Rattle.event_grammar.specs.Slots.{take_child}
use Rattle.event_grammar.specs.InGrammar.{node_name}
use Rattle.event_grammar.specs.Trees.{Nodes, Nil, Cons}
use Rattle.event_meaning.specs.Texts.{append, code_parts, html_parts, leaves}
use Rattle.parse_lines.specs.declared.walk.Walk.{Walk}
use Rattle.parse_lines.specs.InContent.{IsWhole, Stop, WritesInContent}
use Rattle.parse_slots.specs.Left.{Fill, MayEndLines, TakesNoBetween, took}
use Rattle.parse_strings.specs.Plain.{ArePlain}
use Rattle.parse_alike.specs.HtmlText.{html_leaves}

-- the names of the text of code and math
abbrev pub IsCodeChunk : Name → Type 0
IsCodeChunk name = (name ≡ n.CodeTextData) ⊎ (name ≡ n.MathTextData)

-- the names of raw text
abbrev pub IsChunk : Name → Type 0
IsChunk name = IsCodeChunk name ⊎ (name ≡ n.HtmlTextData)

-- the byte and the names of code, of its sequences and of its text, or those of math
abbrev pub are_raw_names : ℕ → Name → Name → Name → Bool
are_raw_names marker text sequence chunk =
    ((marker == backtick) && (same_name text n.CodeText && (same_name sequence n.CodeTextSequence && same_name chunk n.CodeTextData)))
    || ((marker == dollar) && (same_name text n.MathText && (same_name sequence n.MathTextSequence && same_name chunk n.MathTextData)))

-- the byte of the sequences of code, or of math
abbrev pub is_raw_marker : ℕ → Bool
is_raw_marker marker = (marker == backtick) || (marker == dollar)

-- code, or math, by its name (CommonMark 6.1)
abbrev pub raw_leaf : Name → List ℕ → InlineLeaf
raw_leaf n.CodeText printed = Code printed
raw_leaf name printed = Math printed

-- each has one of these names
abbrev pub AreNamed : List Name → Nodes → Type 0
AreNamed names Nil = Unit {0}
AreNamed names (Cons node ns) = (is_listed names (node_name node) ≡ true) × AreNamed names ns

-- the names of the nodes of lines: text, line endings, and what is between them
abbrev pub line_names : Name → List Name
line_names name = name ∷ n.LineEnding ∷ n.SpaceOrTab ∷ n.BlockQuotePrefix ∷ []

-- no line ending is cut between bytes and those after them: the codes are those of both
abbrev pub AreCutBetween : List ℕ → List ℕ → Type 0
AreCutBetween bytes content = content_codes (bytes ++ content) ≡ content_codes bytes ++ content_codes content

-- nothing is next, or no space and no tab
abbrev pub BeginsDark : List ℕ → Type 0
BeginsDark [] = Unit {0}
BeginsDark (b ∷ bs) = is_white b ≡ false

-- nodes leave a row as it is that takes any number of chunks of a name, where these bytes may stand
abbrev pub FillsLines : Name → List ℕ → Nodes → Type 0
FillsLines name bytes nodes =
    (around : Between) (slots : List Slot) → take_child slots name ≡ Some (took Plain slots) → TakesNoBetween slots → MayEndLines around bytes
    → Fill around slots nodes slots

-- lines of raw text are written
pub record WritesLines {A : Type 0} (names : Names) (text : List ℕ) (name : Name) (indented : Bool) (bytes content : List ℕ) (stop : Stop) (old new : Walk A)
    : Type 0 where
  pub nodes : Nodes
  pub writes : WritesInContent text bytes nodes content stop old new
  pub named : AreNamed (line_names name) nodes
  pub plain : ArePlain nodes
  pub code : indented ≡ false → IsCodeChunk name → code_parts names text nodes ≡ map code_space (content_codes bytes)
  pub html : indented ≡ true → name ≡ n.HtmlTextData → IsWhole old → html_parts names text nodes ≡ leaves (html_leaves (content_codes bytes))
  pub fill : FillsLines name bytes nodes

-- a part of a line is written, or a line ending, with the white space after it if lines are indented
pub record WritesLine {A : Type 0} (names : Names) (text : List ℕ) (name : Name) (indented : Bool) (size : ℕ) (bytes content : List ℕ) (stop : Stop)
    (old new : Walk A) : Type 0 where
  pub some : 0 < size
  pub within : size ≤ length bytes
  pub nodes : Nodes
  pub writes : WritesInContent text (take size bytes) nodes (drop size bytes ++ content) stop old new
  pub named : AreNamed (line_names name) nodes
  pub plain : ArePlain nodes
  pub stops : indented ≡ true → BeginsDark (drop size bytes)
  pub code : indented ≡ false → IsCodeChunk name
      → code_parts names text nodes ++ map code_space (content_codes (drop size bytes)) ≡ map code_space (content_codes bytes)
  pub html : indented ≡ true → name ≡ n.HtmlTextData → IsWhole old
      → append (html_parts names text nodes) (leaves (html_leaves (content_codes (drop size bytes)))) ≡ leaves (html_leaves (content_codes bytes))
  pub fill : FillsLines name (take size bytes) nodes
  pub cut : IsUtf8 bytes → IsCharBoundary bytes size

-- the first lines of raw text are written, and the rest is ahead
pub record WritesLinesTo {A : Type 0} (names : Names) (text : List ℕ) (name : Name) (indented : Bool) (bytes rest content : List ℕ) (stop : Stop)
    (old new : Walk A) : Type 0 where
  pub front : List ℕ
  pub parts : bytes ≡ front ++ rest
  pub nodes : Nodes
  pub writes : WritesInContent text front nodes (rest ++ content) stop old new
  pub named : AreNamed (line_names name) nodes
  pub plain : ArePlain nodes
  pub whole : indented ≡ true → IsWhole old → 0 < length rest → IsWhole new
  pub code : indented ≡ false → IsCodeChunk name → code_parts names text nodes ++ map code_space (content_codes rest) ≡ map code_space (content_codes bytes)
  pub html : indented ≡ true → name ≡ n.HtmlTextData → IsWhole old
      → append (html_parts names text nodes) (leaves (html_leaves (content_codes rest))) ≡ leaves (html_leaves (content_codes bytes))
  pub fill : FillsLines name front nodes
  pub characters : IsUtf8 bytes → IsUtf8 rest
