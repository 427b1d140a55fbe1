-- What is written of a string between two markers: a title, a label, a destination in angle brackets (CommonMark 4.7 and 6.3).
use Rattle.std.specs.Prelude.{◌≡◌, ◌<◌, ℕ, Bool, false, not, ◌&&◌, ◌||◌, List, [], Option, None, Some, codes, length}
use Rattle.engine_events.specs.Names.{same_name}
use Rattle.engine_events.specs.declared.event.Name.{Name}
use Rattle.engine_events.specs.declared.event.Name.TheVariants as n
use Rattle.markdown_options.specs.declared.configuration.Constructs.{Constructs}
use Rattle.definition_text.specs.Content.{content_codes, is_space}
use Rattle.definition_inline.specs.CharacterReference.{Names}
use Rattle.event_grammar.specs.declared.slot.Between.{Between}
use Rattle.event_grammar.specs.Grammar.{string_row}
use Rattle.event_grammar.specs.InGrammar.{kids_of, node_name}
use Rattle.event_grammar.specs.References.{label_text}
use Rattle.event_grammar.specs.Trees.{Node, Nodes, Nil, Cons}
use Rattle.event_tokens.specs.Tokens.{is_token}
use Rattle.event_meaning.specs.Strings.{string_of}
use Rattle.parse_output.specs.Forest.{append, is_nil, one}
use Rattle.parse_alike.specs.LabelMatch.{HaveSameWords}
use Rattle.parse_slots.specs.Left.{Fill, MayEndLines}
use Rattle.parse_references.specs.Sound.{AreSound}
use Rattle.parse_lines.specs.declared.walk.Walk.{Walk}
use Rattle.parse_lines.specs.InContent.{IsWhole, Stop, WritesInContent}
use Rattle.parse_lines.specs.Quiet.{IsVoidOf}
use Rattle.parse_strings.specs.Plain.{ArePlain}
use Rattle.parse_strings.specs.Strings.{bytes_text}

-- neither data nor the prefix of a quote
abbrev pub is_own : Name → Bool
is_own name = not (same_name name n.Data || same_name name n.BlockQuotePrefix)

abbrev pub are_own : Name → Name → Name → Bool
are_own outer marker string = is_own outer && (is_own marker && is_own string)

-- a marker of a destination may be an angle bracket, that of a title a quote or a parenthesis
abbrev pub fits_angles : Name → Bool
fits_angles marker = is_token marker (codes "<") && is_token marker (codes ">")

abbrev pub fits_quotes : Name → Bool
fits_quotes marker = (is_token marker (codes "\"") && is_token marker (codes "'")) && (is_token marker (codes "(") && is_token marker (codes ")"))

-- a byte of a marker: in ASCII, and neither white space nor a line ending
pub record IsMark (b : ℕ) : Type 0 where
  pub ascii : b < 128
  pub dark : is_space b ≡ false

-- a node whose children spell what a string stands for, and fill the row of a string; as a label it has the words of the string
pub record IsStringNode (on : Constructs) (names : Names) (text : List ℕ) (name : Name) (string : List ℕ) (node : Node) : Type 0 where
  pub named : node_name node ≡ name
  pub filled : 0 < length string
  pub some : is_nil (kids_of node) ≡ false
  pub spells : string_of names text (kids_of node) ≡ bytes_text on names string
  pub plain : ArePlain (kids_of node)
  pub fill : (around : Between) → MayEndLines around string → Fill around string_row (kids_of node) string_row
  pub words : HaveSameWords (content_codes string) (content_codes (label_text text node))
  pub sound : AreSound on names text (kids_of node)

-- an empty string has no node
abbrev pub Holds : Constructs → Names → List ℕ → Name → List ℕ → Option Node → Type 0
Holds on names text name string None = string ≡ []
Holds on names text name string (Some node) = IsStringNode on names text name string node

abbrev pub some_nodes : Option Node → Nodes
some_nodes None = Nil
some_nodes (Some node) = one node

-- a node with a string between two markers
pub record IsQuoted (on : Constructs) (names : Names) (text : List ℕ) (outer marker name : Name) (string : List ℕ) (node : Node) : Type 0 where
  pub first : Node
  pub held : Option Node
  pub last : Node
  pub named : node_name node ≡ outer
  pub kids : kids_of node ≡ Cons first (append (some_nodes held) (one last))
  pub void_first : IsVoidOf marker first
  pub void_last : IsVoidOf marker last
  pub holds : Holds on names text name string held

-- the node of a string is written
pub record WritesHeld {A : Type 0} (on : Constructs) (names : Names) (text : List ℕ) (name : Name) (string content : List ℕ) (stop : Stop) (old new : Walk A)
    : Type 0 where
  pub held : Option Node
  pub holds : Holds on names text name string held
  pub writes : WritesInContent text string (some_nodes held) content stop old new
  pub whole : IsWhole new

-- a string between two markers is written
pub record WritesQuoted {A : Type 0} (on : Constructs) (names : Names) (text : List ℕ) (outer marker name : Name) (string front content : List ℕ) (stop : Stop)
    (old new : Walk A) : Type 0 where
  pub node : Node
  pub is : IsQuoted on names text outer marker name string node
  pub lines : (around : Between) → MayEndLines around front → MayEndLines around string
  pub writes : WritesInContent text front (one node) content stop old new
  pub whole : IsWhole new

-- a destination without brackets
pub record IsRaw (on : Constructs) (names : Names) (text : List ℕ) (outer name : Name) (string : List ℕ) (node : Node) : Type 0 where
  pub held : Node
  pub named : node_name node ≡ outer
  pub kids : kids_of node ≡ one held
  pub holds : IsStringNode on names text name string held

pub record WritesRaw {A : Type 0} (on : Constructs) (names : Names) (text : List ℕ) (outer name : Name) (string content : List ℕ) (stop : Stop)
    (old new : Walk A) : Type 0 where
  pub node : Node
  pub is : IsRaw on names text outer name string node
  pub writes : WritesInContent text string (one node) content stop old new
  pub whole : IsWhole new
