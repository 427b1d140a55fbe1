-- What the states of `raw_text` do.
use Rattle.std.specs.Prelude.{ℕ, Bool, false, not, Option, None, Some, refl, length, slice_get, ◌==◌, ◌&&◌, ◌||◌, ◌-◌}
use Rattle.engine_events.specs.declared.event.Name.TheVariants as names
use Rattle.engine_states.specs.declared.state.Inline.TheVariants as state_inline
use Rattle.engine_states.specs.declared.state.State.TheVariants as states
use Rattle.markdown_engine.specs.Reading.{Config}
use Rattle.engine_programs.specs.Bodies.{FixedName, HeldName, Body, Answer, Consume, Enter, Exit, Keep, Hold, Byte, On, Test, around, has}
use Rattle.state_table.specs.Words.{next, retry, more, at_marker, count_one}
use Rattle.engine_events.specs.contracts.event.Name.{the_type}
use Rattle.engine_events.specs.declared.event.Event.{Event}
use Rattle.engine_events.specs.declared.event.Name.{Name as EventName}
use denote.Enum.Bare.{sameb}
use Rattle.definition_text.specs.Ascii.{line_feed, dollar, backtick}

abbrev pub is_escape : Option Event → Bool
is_escape None = false
is_escape (Some e) = sameb the_type e.name names.CharacterEscape

-- a run begins here: the byte before isn't the same, or is escaped
abbrev pub begins_run : {M : Type 0} → ℕ → Config M → Bool
begins_run marker c = not (has (λ b. b == marker) c.previous) || is_escape (slice_get c.events (length c.events - 1))

-- at the first byte of the opening run
abbrev pub raw_text_open : {M : Type 0} → ℕ → EventName → EventName → EventName → Body M
raw_text_open marker raw sequence content =
    Test (begins_run marker)
    (Hold 1 raw (Hold 2 sequence (Hold 3 content
    (Keep (λ c. record c.tokenize_state { marker = marker; size = 1; size_b = 0 }) (λ c i. refl)
    (Enter (HeldName 1) (Enter (HeldName 2) (Consume (Answer (next state_inline.RawTextSequenceOpen)))))))))
    (Answer states.Nok)

module _ {M : Type 0} where
  -- at a byte that may begin a run
  abbrev pub raw_text_start : Bool → Bool → Body M
  raw_text_start code math =
      Byte (Answer states.Nok)
      (On (λ b. b == backtick) (Test (λ c. code) (raw_text_open 96 names.CodeText names.CodeTextSequence names.CodeTextData) (Answer states.Nok))
      (On (λ b. b == dollar) (Test (λ c. math) (raw_text_open 36 names.MathText names.MathTextSequence names.MathTextData) (Answer states.Nok))
      (Answer states.Nok)))

  -- in the opening run
  abbrev pub raw_text_sequence_open : Bool → Body M
  raw_text_sequence_open single =
      Byte (Answer states.Nok)
      (Test at_marker
      (count_one (Consume (Answer (next state_inline.RawTextSequenceOpen))))
      (Test (λ c. (c.tokenize_state.marker == dollar) && (c.tokenize_state.size == 1) && not single) (Answer states.Nok)
      (Exit (HeldName 2) (Answer (retry state_inline.RawTextBetween)))))

  -- between the parts of the text
  abbrev pub raw_text_between : Body M
  raw_text_between =
      Byte (Answer states.Nok)
      (On (λ b. b == line_feed) (around (FixedName names.LineEnding) (Answer (next state_inline.RawTextBetween)))
      (Byte (Answer states.Nok)
      (Test at_marker
      (Keep (λ c. record c.tokenize_state { size_b = 1 }) (λ c i. refl)
      (Enter (HeldName 2) (Consume (Answer (next state_inline.RawTextSequenceClose)))))
      (Enter (HeldName 3) (Consume (Answer (next state_inline.RawTextData)))))))

  -- in the text
  abbrev pub raw_text_data : Body M
  raw_text_data =
      Byte (Exit (HeldName 3) (Answer (retry state_inline.RawTextBetween)))
      (Test (λ c. has (λ b. (b == line_feed) || (b == c.tokenize_state.marker)) c.current) (Exit (HeldName 3) (Answer (retry state_inline.RawTextBetween)))
      (Consume (Answer (next state_inline.RawTextData))))

  -- in a run that may close the text
  abbrev pub raw_text_sequence_close : Body M
  raw_text_sequence_close =
      Byte
      (Exit (HeldName 2)
      (Test (λ c. c.tokenize_state.size == c.tokenize_state.size_b) (Exit (HeldName 1) (Answer states.Ok))
      (Answer (retry state_inline.RawTextBetween))))
      (Test at_marker
      (Keep (λ c. record c.tokenize_state { size_b = more c.tokenize_state.size_b }) (λ c i. refl)
      (Consume (Answer (next state_inline.RawTextSequenceClose))))
      (Exit (HeldName 2)
      (Test (λ c. c.tokenize_state.size == c.tokenize_state.size_b) (Exit (HeldName 1) (Answer states.Ok))
      (Answer (retry state_inline.RawTextBetween)))))
