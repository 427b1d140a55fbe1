-- What the states of `character_reference` do.
use Rattle.std.specs.Prelude.{is_some, ℕ, Bool, not, nat_lt, nat_le, List, Option, refl, length, ◌==◌, ◌&&◌, ◌||◌, ◌-◌, if◌then◌else◌}
use Rattle.std.specs.Char.{is_ascii_alphanumeric, is_ascii_digit, is_ascii_hexdigit}
use Rattle.engine_events.specs.declared.event.Name.TheVariants as names
use Rattle.engine_states.specs.declared.state.Inline.TheVariants as state_inline
use Rattle.engine_states.specs.declared.state.State.TheVariants as states
use Rattle.markdown_engine.specs.Reading.{Config}
use Rattle.engine_programs.specs.Bodies.{FixedName, Body, Answer, Consume, Enter, Exit, Keep, Byte, On, Test, around, has}
use Rattle.state_table.specs.Words.{next, count_one}
use Rattle.engine_events.specs.Columns.{between}
use Rattle.std.specs.Str.{is_utf8}
use Rattle.definition_text.specs.Ascii.{number_sign, ampersand, semicolon, capital_x, small_x}

-- Whether a byte may be the next of a reference, of which a marker tells the kind and so many were read.
abbrev pub goes_on : ℕ → ℕ → ℕ → Bool
goes_on marker size b =
    if marker == ampersand then nat_lt size 31 && is_ascii_alphanumeric b
    else if marker == small_x then nat_lt size 6 && is_ascii_hexdigit b
    else nat_lt size 7 && is_ascii_digit b

-- whether a name is UTF-8, and has a text
abbrev pub has_text : (List ℕ → Option (List ℕ)) → List ℕ → Bool
has_text texts name = is_utf8 name && is_some (texts name)

-- whether so many bytes before an index are a known name
abbrev pub is_name : (List ℕ → Option (List ℕ)) → List ℕ → ℕ → ℕ → Bool
is_name texts bytes size index = nat_le index (length bytes) && has_text texts (between (index - size) index bytes)

-- Whether the value before an index stands for something: digits always do.
abbrev pub is_known : (List ℕ → Option (List ℕ)) → List ℕ → ℕ → ℕ → ℕ → Bool
is_known texts bytes marker size index = nat_lt 0 size && (not (marker == ampersand) || is_name texts bytes size index)

module _ {M : Type 0} where
  -- the same of the value that is being read
  abbrev pub is_value_known : (List ℕ → Option (List ℕ)) → List ℕ → Config M → Bool
  is_value_known texts bytes c = is_known texts bytes c.tokenize_state.marker c.tokenize_state.size c.point.index

  -- at an `&`
  abbrev pub character_reference_start : Bool → Body M
  character_reference_start on =
      Byte (Answer states.Nok)
      (On (λ b. b == ampersand)
      (Test (λ c. on)
      (Enter (FixedName names.CharacterReference)
      (around (FixedName names.CharacterReferenceMarker) (Answer (next state_inline.CharacterReferenceOpen))))
      (Answer states.Nok))
      (Answer states.Nok))

  -- after the `&`
  abbrev pub character_reference_open : Body M
  character_reference_open =
      Byte (Answer states.Nok)
      (On (λ b. b == number_sign) (around (FixedName names.CharacterReferenceMarkerNumeric) (Answer (next state_inline.CharacterReferenceNumeric)))
      (On is_ascii_alphanumeric
      (Keep (λ c. record c.tokenize_state { marker = 38; size = 1 }) (λ c i. refl)
      (Enter (FixedName names.CharacterReferenceValue) (Consume (Answer (next state_inline.CharacterReferenceValue)))))
      (Answer states.Nok)))

  -- after the `#`
  abbrev pub character_reference_numeric : Body M
  character_reference_numeric =
      Byte (Answer states.Nok)
      (On (λ b. (b == small_x) || (b == capital_x))
      (Keep (λ c. record c.tokenize_state { marker = 120; size = 0 }) (λ c i. refl)
      (around (FixedName names.CharacterReferenceMarkerHexadecimal)
      (Enter (FixedName names.CharacterReferenceValue) (Answer (next state_inline.CharacterReferenceValue)))))
      (On is_ascii_digit
      (Keep (λ c. record c.tokenize_state { marker = 35; size = 1 }) (λ c i. refl)
      (Enter (FixedName names.CharacterReferenceValue) (Consume (Answer (next state_inline.CharacterReferenceValue)))))
      (Answer states.Nok)))

  -- in the value
  abbrev pub character_reference_value : (List ℕ → Option (List ℕ)) → List ℕ → Body M
  character_reference_value texts bytes =
      Byte (Answer states.Nok)
      (Test (λ c. has (λ b. b == semicolon) c.current && is_value_known texts bytes c)
      (Exit (FixedName names.CharacterReferenceValue)
      (around (FixedName names.CharacterReferenceMarkerSemi) (Exit (FixedName names.CharacterReference) (Answer states.Ok))))
      (Test (λ c. has (goes_on c.tokenize_state.marker c.tokenize_state.size) c.current)
      (count_one (Consume (Answer (next state_inline.CharacterReferenceValue))))
      (Answer states.Nok)))
