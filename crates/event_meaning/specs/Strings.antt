-- Strings: what an info, a destination or a title spells (CommonMark 2.4 and 2.5).
use Rattle.std.specs.Prelude.{ℕ, Bool, ◌||◌, if◌then◌else◌, ◌==◌, List, [], ◌∷◌, ◌++◌, Option, None, Some, codes, is_some, unwrap_or}
use Rattle.std.specs.Fmt.{decimal}
use Rattle.std.specs.List.{flat_map}
use Rattle.engine_events.specs.declared.event.Name.{Name}
use Rattle.engine_events.specs.declared.event.Name.TheVariants as n
use Rattle.definition_text.specs.Ascii.{ampersand, backslash}
use Rattle.definition_text.specs.Columns.{Code, is_white}
use Rattle.definition_text.specs.Content.{is_eol}
use Rattle.definition_inline.specs.CharacterReference.{Names, number_of, numbered_text}
use Rattle.event_grammar.specs.InGrammar.{node_name, kids_of}
use Rattle.event_grammar.specs.Trees.{Nodes, Nil, Cons}
use Rattle.event_meaning.specs.Children.{child, text_of, text_in}

module _ (names : Names) (bytes : List ℕ) where
  -- the text of a character reference, by its markers and its value
  abbrev pub reference_text_of : Nodes → List ℕ
  reference_text_of kids =
      let value = text_in bytes n.CharacterReferenceValue kids in
      if is_some (child n.CharacterReferenceMarkerHexadecimal kids) then numbered_text (number_of 16 value)
      else (if is_some (child n.CharacterReferenceMarkerNumeric kids) then numbered_text (number_of 10 value)
      else unwrap_or (names value) [])

  -- what a part of a string spells
  abbrev pub string_part : Name → List ℕ → Nodes → List ℕ
  string_part n.Data text kids = text
  string_part n.LineEnding text kids = text
  string_part n.CharacterEscape text kids = text_in bytes n.CharacterEscapeValue kids
  string_part n.CharacterReference text kids = reference_text_of kids
  string_part name text kids = []

  -- what a string spells
  abbrev pub string_of : Nodes → List ℕ
  string_of Nil = []
  string_of (Cons node ns) = string_part (node_name node) (text_of bytes node) (kids_of node) ++ string_of ns

-- ---- strings as they are written

-- whether something may begin at a byte in a string, or the byte may be left out there
abbrev pub is_told : ℕ → Bool
is_told b = is_white b || (is_eol b || ((b == ampersand) || (b == backslash)))

-- a byte, by its number where it may stand for something else
abbrev pub written_byte : ℕ → List Code
written_byte b = if is_told b then codes "&#" ++ decimal b ++ codes ";" else b ∷ []

-- a string that stands for a text
abbrev pub written : List ℕ → List Code
written text = flat_map written_byte text
