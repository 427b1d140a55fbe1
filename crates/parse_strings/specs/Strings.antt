-- What is written of a string (CommonMark 2.4 and 2.5).
use Rattle.std.specs.Prelude.{◌≡◌, ◌<◌, ◌⊎◌, ℕ, Bool, false, not, ◌&&◌, nat_le, List, ◌++◌, None, length, take}
use Rattle.std.specs.List.{list_any}
use Rattle.std.specs.Str.{IsCharBoundary, IsUtf8}
use Rattle.markdown_options.specs.declared.configuration.Constructs.{Constructs}
use Rattle.definition_text.specs.Columns.{Code, bare, indent}
use Rattle.definition_text.specs.Content.{content_codes, is_space}
use Rattle.definition_text.specs.Lines.{ends_line}
use Rattle.definition_inline.specs.CharacterEscape.{escape_at}
use Rattle.definition_inline.specs.CharacterReference.{Names, reference_at}
use Rattle.definition_inline.specs.Strings.{begins_with_eol, string_text}
use Rattle.engine_events.specs.declared.event.Name.{Name}
use Rattle.event_grammar.specs.declared.slot.Between.{Between}
use Rattle.event_grammar.specs.declared.slot.Form.TheVariants.{Plain}
use Rattle.event_grammar.specs.Grammar.{string_row}
use Rattle.event_grammar.specs.InGrammar.{node_name}
use Rattle.event_grammar.specs.Trees.{Node, Nodes}
use Rattle.event_meaning.specs.Strings.{is_told, string_of}
use Rattle.parse_output.specs.Forest.{one}
use Rattle.parse_lines.specs.declared.walk.Walk.{Walk}
use Rattle.parse_lines.specs.Content.{StandsInLine, WritesInLine}
use Rattle.parse_lines.specs.InContent.{IsWhole, Stop, WritesInContent}
use Rattle.parse_slots.specs.Left.{Fill, IsFilled, MayEndLines}
use Rattle.parse_references.specs.Sound.{AreSound, IsSound}
use Rattle.parse_strings.specs.Plain.{ArePlain}

-- the text that the bytes of a string stand for (CommonMark 2.4 and 2.5)
abbrev pub bytes_text : Constructs → Names → List ℕ → List ℕ
bytes_text on names bytes = string_text on names (content_codes bytes)

-- a walk stands in a line of a string, of which these bytes are next, and not inside a tab
pub record StandsInString {A : Type 0} (text line : List ℕ) (w : Walk A) : Type 0 where
  pub stands : StandsInLine text line w
  pub whole : IsWhole w

-- a node of this name is written for the first of these bytes, which spells a string, and the others are next
pub record WritesNode {A : Type 0} (on : Constructs) (names : Names) (text : List ℕ) (name : Name) (front string line : List ℕ) (old new : Walk A) : Type 0 where
  pub node : Node
  pub named : node_name node ≡ name
  pub writes : WritesInLine text front (one node) line old new
  pub whole : IsWhole new
  pub spells : string_of names text (one node) ≡ string
  pub plain : ArePlain (one node)
  pub filled : (around : Between) → IsFilled around Plain node
  pub sound : IsSound on names text node

-- the same in a content
pub record WritesNodeIn {A : Type 0} (on : Constructs) (names : Names) (text : List ℕ) (name : Name) (front string content : List ℕ) (stop : Stop)
    (old new : Walk A) : Type 0 where
  pub node : Node
  pub named : node_name node ≡ name
  pub writes : WritesInContent text front (one node) content stop old new
  pub whole : IsWhole new
  pub spells : string_of names text (one node) ≡ string
  pub plain : ArePlain (one node)
  pub filled : (around : Between) → IsFilled around Plain node
  pub sound : IsSound on names text node

-- A string has one line, or no white space and no line ending comes after it: so neither a line ending nor a tab is cut where it ends.
abbrev pub AreCutApart : List ℕ → List ℕ → Type 0
AreCutApart string content = (list_any ends_line string ≡ false) ⊎ (list_any is_space (take 1 content) ≡ false)

-- a byte in which nothing begins
abbrev pub is_ink : ℕ → Bool
is_ink b = not (is_told b)

-- neither an escape nor a reference, no line ending and no white space before one begins here
pub record NoLeaf (on : Constructs) (names : Names) (cs : List Code) : Type 0 where
  pub escape : escape_at on cs ≡ None
  pub reference : reference_at on names cs ≡ None
  pub ending : begins_with_eol cs ≡ false
  pub spaces : (nat_le 1 (indent cs) && begins_with_eol (bare cs)) ≡ false

-- nodes are written for the first bytes of a string, so many, which spell what they stand for
pub record WritesStringPart {A : Type 0} (on : Constructs) (names : Names) (text string content : List ℕ) (size : ℕ) (stop : Stop) (old new : Walk A)
    : Type 0 where
  pub front : List ℕ
  pub after : List ℕ
  pub parts : string ≡ front ++ after
  pub is : size ≡ length front
  pub some : 0 < size
  pub cut : IsUtf8 string → IsCharBoundary string size
  pub nodes : Nodes
  pub writes : WritesInContent text front nodes (after ++ content) stop old new
  pub whole : IsWhole new
  pub spells : bytes_text on names string ≡ string_of names text nodes ++ bytes_text on names after
  pub plain : ArePlain nodes
  pub fill : (around : Between) → MayEndLines around front → Fill around string_row nodes string_row
  pub sound : AreSound on names text nodes

-- nodes are written for all of a string but its rest
pub record WritesStringFront {A : Type 0} (on : Constructs) (names : Names) (text string rest content : List ℕ) (stop : Stop) (old new : Walk A)
    : Type 0 where
  pub front : List ℕ
  pub parts : string ≡ front ++ rest
  pub nodes : Nodes
  pub writes : WritesInContent text front nodes (rest ++ content) stop old new
  pub whole : IsWhole new
  pub spells : bytes_text on names string ≡ string_of names text nodes ++ bytes_text on names rest
  pub plain : ArePlain nodes
  pub fill : (around : Between) → MayEndLines around front → Fill around string_row nodes string_row
  pub sound : AreSound on names text nodes

-- nodes are written for a string in a content, which spell the text that the string stands for, and the bytes after it are ahead
pub record WritesStringIn {A : Type 0} (names : Names) (on : Constructs) (text string content : List ℕ) (stop : Stop) (old new : Walk A) : Type 0 where
  pub nodes : Nodes
  pub writes : WritesInContent text string nodes content stop old new
  pub whole : IsWhole new
  pub spells : string_of names text nodes ≡ bytes_text on names string
  pub plain : ArePlain nodes
  pub fill : (around : Between) → MayEndLines around string → Fill around string_row nodes string_row
  pub sound : AreSound on names text nodes
