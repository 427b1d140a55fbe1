-- What the states of `character_escape` do.
use Rattle.std.specs.Prelude.{Bool, ◌==◌}
use Rattle.std.specs.Char.{is_ascii_punctuation}
use Rattle.engine_events.specs.declared.event.Name.TheVariants as names
use Rattle.engine_states.specs.declared.state.Inline.TheVariants as state_inline
use Rattle.engine_states.specs.declared.state.State.TheVariants as states
use Rattle.engine_programs.specs.Bodies.{FixedName, Body, Answer, Enter, Exit, Byte, On, Test, around}
use Rattle.state_table.specs.Words.{next}
use Rattle.definition_text.specs.Ascii.{backslash}

module _ {M : Type 0} where
  -- at a backslash
  abbrev pub character_escape_start : Bool → Body M
  character_escape_start on =
      Byte (Answer states.Nok)
      (On (λ b. b == backslash)
      (Test (λ c. on)
      (Enter (FixedName names.CharacterEscape) (around (FixedName names.CharacterEscapeMarker) (Answer (next state_inline.CharacterEscapeInside))))
      (Answer states.Nok))
      (Answer states.Nok))

  -- after the backslash
  abbrev pub character_escape_inside : Body M
  character_escape_inside =
      Byte (Answer states.Nok)
      (On is_ascii_punctuation (around (FixedName names.CharacterEscapeValue) (Exit (FixedName names.CharacterEscape) (Answer states.Ok))) (Answer states.Nok))
