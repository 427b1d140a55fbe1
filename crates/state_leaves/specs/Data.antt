-- What the states of `partial_data` do.
use Rattle.std.specs.Prelude.{ℕ, Bool, ◌==◌, ◌||◌, if◌then◌else◌}
use Rattle.engine_events.specs.declared.event.Name.TheVariants as names
use Rattle.engine_states.specs.declared.state.Inline.TheVariants as state_inline
use Rattle.engine_states.specs.declared.state.State.TheVariants as states
use Rattle.engine_programs.specs.Bodies.{FixedName, Body, Answer, Consume, Enter, Exit, Byte, On, Test, around, has}
use Rattle.state_table.specs.Words.{next, retry}
use Rattle.definition_text.specs.Ascii.{line_feed, exclamation_mark, dollar, ampersand, asterisk, less_than, left_bracket, backslash, right_bracket, underscore}
use Rattle.definition_text.specs.Ascii.{backtick, equals, tilde}

-- a byte that may begin a construct of a string, or of a text
abbrev pub is_string_marker : ℕ → Bool
is_string_marker b = (b == ampersand) || (b == backslash)

abbrev pub is_text_marker : ℕ → Bool
is_text_marker b = (b == exclamation_mark) || (b == dollar) || (b == ampersand) || (b == asterisk) || (b == less_than) || (b == equals) || (b == 72) || (b == 87)
    || (b == left_bracket) || (b == backslash) || (b == right_bracket) || (b == underscore) || (b == backtick) || (b == 104) || (b == 119) || (b == tilde)

abbrev pub is_marker : Bool → ℕ → Bool
is_marker in_text b = if in_text then is_text_marker b else is_string_marker b

module _ {M : Type 0} where
  -- at a byte that begins no construct, or one that failed
  abbrev pub data_start : Body M
  data_start =
      On (λ b. b == line_feed) (around (FixedName names.LineEnding) (Answer (next state_inline.DataAtBreak)))
      (Enter (FixedName names.Data) (Consume (Answer (next state_inline.DataInside))))

  -- between data and line endings
  abbrev pub data_at_break : Body M
  data_at_break =
      Byte (Answer states.Ok)
      (On (λ b. b == line_feed) (around (FixedName names.LineEnding) (Answer (next state_inline.DataAtBreak)))
      (Byte (Answer states.Ok)
      (Test (λ c. has (is_marker c.tokenize_state.seen) c.current) (Answer states.Ok)
      (Enter (FixedName names.Data) (Consume (Answer (next state_inline.DataInside)))))))

  -- in data
  abbrev pub data_inside : Body M
  data_inside =
      Byte (Exit (FixedName names.Data) (Answer (retry state_inline.DataAtBreak)))
      (Test (λ c. has (λ b. (b == line_feed) || is_marker c.tokenize_state.seen b) c.current)
      (Exit (FixedName names.Data) (Answer (retry state_inline.DataAtBreak)))
      (Consume (Answer (next state_inline.DataInside))))
