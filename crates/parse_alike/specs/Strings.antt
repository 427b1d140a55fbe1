-- Strings that are written anew stand for the same texts (CommonMark 2.4 and 2.5).
use Rattle.std.specs.Prelude.{◌≡◌, ◌<◌, ℕ, List, Option, Some, get_or}
use Rattle.markdown_options.specs.Defaults.{default_constructs}
use Rattle.definition_text.specs.Columns.{Code}
use Rattle.definition_inline.specs.CharacterReference.{Names}
use Rattle.definition_inline.specs.Definition.{Definition, definition}
use Rattle.definition_inline.specs.Inline.{Resource}
use Rattle.definition_inline.specs.Strings.{string_text}
use Rattle.definition_page.specs.InlinePieces.{Meaning}
use Rattle.event_grammar.specs.Trees.{Nodes}
use Rattle.event_meaning.specs.Strings.{string_of, written}
use Rattle.parse_alike.specs.Targets.{title_text, AreLabelsAlike, AreStringsAlike, AreTitlesAlike, AreTargetsAlike, IsDefinitionAlike}

abbrev pub IsOfBytes : List ℕ → Type 0
IsOfBytes text = (k : ℕ) → get_or text k 0 < 256

-- a string as it is written where events spell it
abbrev pub rewritten : Meaning → List Code → List Code
rewritten m string = written (string_text m.on m.names string)

-- a title, which is written always
abbrev pub rewritten_title : Meaning → Option (List Code) → Option (List Code)
rewritten_title m title = Some (written (title_text m title))

-- Strings are alike to what is written for them, which the constructs of CommonMark read: in a resource, and in a definition with a label that matches.
pub record WrittenStringsAreAlike : Type 0 where
  pub strings : (m m' : Meaning) (string : List Code) → m'.on ≡ default_constructs → IsOfBytes (string_text m.on m.names string)
      → AreStringsAlike m m' string (rewritten m string)
  pub titles : (m m' : Meaning) (title : Option (List Code)) → m'.on ≡ default_constructs → IsOfBytes (title_text m title)
      → AreTitlesAlike m m' title (rewritten_title m title)
  pub targets : (m m' : Meaning) (destination : List Code) (title : Option (List Code)) → m'.on ≡ default_constructs
      → IsOfBytes (string_text m.on m.names destination) → IsOfBytes (title_text m title)
      → AreTargetsAlike m m' (Resource destination title) (Resource (rewritten m destination) (rewritten_title m title))
  pub definitions : (m m' : Meaning) (d : Definition) (label rest : List Code) → m'.on ≡ default_constructs
      → IsOfBytes (string_text m.on m.names d.destination) → IsOfBytes (title_text m d.title) → AreLabelsAlike d.label label
      → IsDefinitionAlike m m' d (definition label (rewritten m d.destination) (rewritten_title m d.title) rest)

-- names of characters that stand for texts of bytes
abbrev pub HaveTextsOfBytes : Names → Type 0
HaveTextsOfBytes names = (name text : List ℕ) → names name ≡ Some text → IsOfBytes text

-- What the events of a string spell is a text of bytes.
pub record SpelledStringsAreOfBytes : Type 0 where
  pub spelled : (names : Names) (bytes : List ℕ) (string : Nodes) → HaveTextsOfBytes names → IsOfBytes bytes → IsOfBytes (string_of names bytes string)
