-- What is written of a destination (CommonMark 6.3).
use Rattle.std.specs.Prelude.{◌≡◌, ◌≢◌, ◌⊎◌, ◌<◌, ℕ, false, List, [], ◌∷◌, ◌++◌, length, slice_index}
use Rattle.std.specs.List.{list_any}
use Rattle.markdown_options.specs.declared.configuration.Constructs.{Constructs}
use Rattle.definition_text.specs.Ascii.{greater_than, less_than}
use Rattle.definition_text.specs.Lines.{ends_line}
use Rattle.definition_inline.specs.CharacterReference as references
use Rattle.event_grammar.specs.InGrammar.{kids_of, node_name}
use Rattle.event_grammar.specs.Trees.{Node}
use Rattle.parse_output.specs.Forest.{one}
use Rattle.parse_lines.specs.declared.walk.Walk.{Walk}
use Rattle.parse_lines.specs.InContent.{IsWhole, Stop, WritesInContent}
use Rattle.parse_links.specs.declared.names.Names.{Names}
use Rattle.parse_links.specs.Quoted.{IsQuoted, IsRaw}

-- a destination: a string in one line, between angle brackets, or itself if it doesn't begin with one
pub record IsPlace (string text : List ℕ) : Type 0 where
  pub dark : list_any ends_line string ≡ false
  pub form : (text ≡ less_than ∷ (string ++ greater_than ∷ [])) ⊎ ((text ≡ string) × (0 < length string) × (slice_index string 0 ≢ less_than))

-- the node of a destination's string and what is around it
abbrev pub IsInner : Constructs → references.Names → List ℕ → Names → List ℕ → Node → Type 0
IsInner on known text names string node =
    IsQuoted on known text names.literal.outer names.literal.marker names.literal.string string node
    ⊎ IsRaw on known text names.raw names.literal.string string node

pub record WritesInner {A : Type 0} (on : Constructs) (known : references.Names) (text : List ℕ) (names : Names) (string front content : List ℕ) (stop : Stop)
    (old new : Walk A) : Type 0 where
  pub node : Node
  pub is : IsInner on known text names string node
  pub writes : WritesInContent text front (one node) content stop old new
  pub whole : IsWhole new

-- a destination is written
pub record WritesDestination {A : Type 0} (on : Constructs) (known : references.Names) (text : List ℕ) (names : Names) (string front content : List ℕ)
    (stop : Stop) (old new : Walk A) : Type 0 where
  pub node : Node
  pub inner : Node
  pub named : node_name node ≡ names.destination
  pub kids : kids_of node ≡ one inner
  pub is : IsInner on known text names string inner
  pub dark : list_any ends_line string ≡ false
  pub writes : WritesInContent text front (one node) content stop old new
  pub whole : IsWhole new
