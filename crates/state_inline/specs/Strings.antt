-- What the states of `string` do.
use Rattle.std.specs.Prelude.{false, refl, ◌==◌}
use Rattle.engine_states.specs.declared.resolve.Name.TheVariants as resolvers
use Rattle.engine_states.specs.declared.state.Inline.TheVariants as state_inline
use Rattle.engine_states.specs.declared.state.State.TheVariants as states
use Rattle.engine_programs.specs.Bodies.{Body, Answer, Keep, Register, Tries, Byte, On}
use Rattle.state_table.specs.Words.{next, retry}
use Rattle.definition_text.specs.Ascii.{ampersand, backslash}

module _ {M : Type 0} where
  -- at the first byte
  abbrev pub string_start : Body M
  string_start =
      Answer (retry state_inline.StringBefore)

  -- before each part
  abbrev pub string_before : Body M
  string_before =
      Byte (Register resolvers.Data (Register resolvers.String (Answer states.Ok)))
      (On (λ b. b == ampersand)
      (Tries false (next state_inline.StringBefore) (next state_inline.StringBeforeData) (retry state_inline.CharacterReferenceStart))
      (On (λ b. b == backslash)
      (Tries false (next state_inline.StringBefore) (next state_inline.StringBeforeData) (retry state_inline.CharacterEscapeStart))
      (Answer (retry state_inline.StringBeforeData))))

  -- where no construct is
  abbrev pub string_before_data : Body M
  string_before_data =
      Byte (Answer states.Ok)
      (Keep (λ c. record c.tokenize_state { seen = false }) (λ c i. refl)
      (Tries false (next state_inline.StringBefore) states.Nok (retry state_inline.DataStart)))
