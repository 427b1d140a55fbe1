-- What is written of a character reference (CommonMark 2.5).
use Rattle.std.specs.Prelude.{◌≡◌, ℕ, ◌+◌, Bool, true, false, ◌&&◌, ◌||◌, ◌==◌, List, [], ◌∷◌, is_some, unwrap_or}
use Rattle.std.specs.Str.{is_utf8}
use Rattle.engine_events.specs.declared.event.Name.{Name}
use Rattle.engine_events.specs.declared.event.Name.TheVariants as n
use Rattle.definition_text.specs.Ascii.{number_sign, semicolon, small_x, capital_x}
use Rattle.definition_inline.specs.CharacterReference.{Names, number_of, numbered_text}
use Rattle.event_grammar.specs.Facts.{are_digits, are_hexdigits}
use Rattle.event_grammar.specs.Trees.{Node, Nodes, Around, Nil, Cons}
use Rattle.parse_output.specs.Ends.{end_at, enter_at, exit_at}
use Rattle.parse_output.specs.Written.{end_in}
use Rattle.parse_lines.specs.declared.walk.Walk.{Walk}
use Rattle.parse_lines.specs.Content.{WritesInLine}

abbrev pub is_x : ℕ → Bool
is_x b = (b == small_x) || (b == capital_x)

abbrev pub is_semicolon : ℕ → Bool
is_semicolon b = b == semicolon

-- the bytes between the `&` and the value of a reference, if the value begins with this byte: none, `#`, or `#x`
abbrev pub AreMarks : List ℕ → ℕ → Type 0
AreMarks [] first = (first == number_sign) ≡ false
AreMarks (m ∷ []) first = (m ≡ number_sign) × (is_x first ≡ false)
AreMarks (m ∷ x ∷ []) first = (m ≡ number_sign) × (is_x x ≡ true)
AreMarks (m ∷ x ∷ y ∷ ms) first = ⊥

-- what a value after these stands for
abbrev pub marked_text : Names → List ℕ → List ℕ → List ℕ
marked_text names [] value = unwrap_or (names value) []
marked_text names (m ∷ []) value = numbered_text (number_of 10 value)
marked_text names (m ∷ x ∷ ms) value = numbered_text (number_of 16 value)

-- whether a value after these decodes
abbrev pub marked_decodes : Names → List ℕ → List ℕ → Bool
marked_decodes names [] value = is_utf8 value && is_some (names value)
marked_decodes names (m ∷ []) value = are_digits 7 value
marked_decodes names (m ∷ x ∷ ms) value = are_hexdigits 6 value

-- what holds no other, from an index on, of so many bytes
abbrev pub token : List ℕ → Name → ℕ → ℕ → Node
token text name index size = Around (enter_at text name (end_at index 0)) Nil (exit_at text name (end_at (index + size) 0))

abbrev pub mark_nodes : List ℕ → ℕ → List ℕ → Nodes
mark_nodes text index [] = Nil
mark_nodes text index (m ∷ []) = Cons (token text n.CharacterReferenceMarkerNumeric index 1) Nil
mark_nodes text index (m ∷ x ∷ ms) =
    Cons (token text n.CharacterReferenceMarkerNumeric index 1) (Cons (token text n.CharacterReferenceMarkerHexadecimal (index + 1) 1) Nil)

-- the nodes of these marks are written
pub record WritesMarks {A : Type 0} (text marks line : List ℕ) (old new : Walk A) : Type 0 where
  pub writes : WritesInLine text marks (mark_nodes text (end_in old.out).index marks) line old new
  pub whole : (end_in new.out).owed ≡ 0
