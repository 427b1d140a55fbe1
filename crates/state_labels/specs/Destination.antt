-- What the states of `partial_destination` do.
use Rattle.std.specs.Prelude.{ℕ, Bool, nat_lt, refl, ◌==◌, ◌||◌}
use Rattle.std.specs.Int.{is_in_range}
use Rattle.engine_events.specs.declared.event.Name.TheVariants as names
use Rattle.engine_states.specs.declared.state.Inline.TheVariants as state_inline
use Rattle.engine_states.specs.declared.state.State.TheVariants as states
use Rattle.engine_programs.specs.Bodies.{FixedName, HeldName, Body, Answer, Consume, Enter, EnterLink, Exit, Keep, Byte, On, Test, around}
use Rattle.state_table.specs.Words.{next, retry, more, less}
use Rattle.state_labels.specs.Chunk.{first_link}
use Rattle.engine_states.specs.declared.state.State.{State}
use Rattle.definition_text.specs.Ascii.{tab, line_feed, space, left_parenthesis, right_parenthesis, less_than, greater_than, backslash, delete}

-- a byte that can't stand in a destination with no angle brackets; NUL may
abbrev pub is_control : ℕ → Bool
is_control b = is_in_range 1 32 b || (b == delete)

-- over a byte between angle brackets
abbrev pub enclosed_byte : {M : Type 0} → Body M
enclosed_byte = On (λ b. b == backslash) (Consume (Answer (next state_inline.DestinationEnclosedEscape)))
    (Consume (Answer (next state_inline.DestinationEnclosed)))

-- over a byte with none around
abbrev pub raw_byte : {M : Type 0} → Body M
raw_byte =
    On (λ b. b == left_parenthesis)
    (Test (λ c. nat_lt c.tokenize_state.size c.tokenize_state.size_b)
    (Keep (λ c. record c.tokenize_state { size = more c.tokenize_state.size }) (λ c i. refl) (Consume (Answer (next state_inline.DestinationRaw))))
    (Answer states.Nok))
    (On (λ b. b == backslash) (Consume (Answer (next state_inline.DestinationRawEscape)))
    (Consume (Answer (next state_inline.DestinationRaw))))

-- over the first byte between angle brackets
abbrev pub begin_enclosed : {M : Type 0} → State → Body M
begin_enclosed state = Enter (HeldName 5) (EnterLink (FixedName names.Data) first_link (Consume (Answer state)))

-- over the first byte with none around, after which so many parentheses are open
abbrev pub begin_raw : {M : Type 0} → ℕ → State → Body M
begin_raw size state =
    Keep (λ c. record c.tokenize_state { size = size }) (λ c i. refl)
    (Enter (HeldName 1) (Enter (HeldName 4) (Enter (HeldName 5) (EnterLink (FixedName names.Data) first_link (Consume (Answer state))))))

-- at the end of one with none around, if no parenthesis is open
abbrev pub raw_end : {M : Type 0} → Body M
raw_end = Test (λ c. c.tokenize_state.size == 0) (Exit (FixedName names.Data) (Exit (HeldName 5) (Exit (HeldName 4) (Exit (HeldName 1) (Answer states.Ok)))))
    (Answer states.Nok)

module _ {M : Type 0} where
  -- at the first byte
  abbrev pub destination_start : Body M
  destination_start =
      Byte (Answer states.Nok)
      (On (λ b. b == less_than) (Enter (HeldName 1) (Enter (HeldName 2) (around (HeldName 3) (Answer (next state_inline.DestinationEnclosedBefore)))))
      (On is_control (Answer states.Nok)
      (On (λ b. b == right_parenthesis) (Answer states.Nok)
      (On (λ b. b == left_parenthesis) (Test (λ c. nat_lt 0 c.tokenize_state.size_b) (begin_raw 1 (next state_inline.DestinationRaw)) (Answer states.Nok))
      (On (λ b. b == backslash) (begin_raw 0 (next state_inline.DestinationRawEscape)) (begin_raw 0 (next state_inline.DestinationRaw)))))))

  -- after the `<`, or at the `>`
  abbrev pub destination_enclosed_before : Body M
  destination_enclosed_before =
      Byte (Answer states.Nok)
      (On (λ b. b == greater_than) (around (HeldName 3) (Exit (HeldName 2) (Exit (HeldName 1) (Answer states.Ok))))
      (On (λ b. (b == line_feed) || (b == less_than)) (Answer states.Nok)
      (On (λ b. b == backslash) (begin_enclosed (next state_inline.DestinationEnclosedEscape)) (begin_enclosed (next state_inline.DestinationEnclosed)))))

  -- between the angle brackets
  abbrev pub destination_enclosed : Body M
  destination_enclosed =
      Byte (Answer states.Nok)
      (On (λ b. b == greater_than) (Exit (FixedName names.Data) (Exit (HeldName 5) (Answer (retry state_inline.DestinationEnclosedBefore))))
      (On (λ b. (b == line_feed) || (b == less_than)) (Answer states.Nok) enclosed_byte))

  -- between the angle brackets, after a backslash
  abbrev pub destination_enclosed_escape : Body M
  destination_enclosed_escape =
      On (λ b. (b == less_than) || (b == greater_than) || (b == backslash)) (Consume (Answer (next state_inline.DestinationEnclosed)))
      (Answer (retry state_inline.DestinationEnclosed))

  -- with no angle brackets around
  abbrev pub destination_raw : Body M
  destination_raw =
      Byte raw_end
      (On (λ b. (b == tab) || (b == line_feed) || (b == space)) raw_end
      (On (λ b. b == right_parenthesis)
      (Test (λ c. c.tokenize_state.size == 0) raw_end
      (Keep (λ c. record c.tokenize_state { size = less c.tokenize_state.size }) (λ c i. refl)
      (Consume (Answer (next state_inline.DestinationRaw)))))
      (On is_control (Answer states.Nok) raw_byte)))

  -- with no angle brackets around, after a backslash
  abbrev pub destination_raw_escape : Body M
  destination_raw_escape =
      On (λ b. (b == left_parenthesis) || (b == right_parenthesis) || (b == backslash)) (Consume (Answer (next state_inline.DestinationRaw)))
      (Answer (retry state_inline.DestinationRaw))
