-- What the states of `partial_label` do.
use Rattle.std.specs.Prelude.{ℕ, true, false, not, nat_lt, refl, ◌==◌, ◌||◌, if◌then◌else◌}
use Rattle.engine_events.specs.declared.event.Name.TheVariants as names
use Rattle.engine_states.specs.declared.state.Inline.TheVariants as state_inline
use Rattle.engine_states.specs.declared.state.State.TheVariants as states
use Rattle.engine_programs.specs.Bodies.{FixedName, HeldName, Body, Answer, Consume, Enter, EnterLink, Exit, Keep, Tries, Byte, On, Test, around, has}
use Rattle.state_table.specs.Words.{next, retry, more, is_space_or_tab}
use Rattle.state_labels.specs.Chunk.{part_link}
use Rattle.engine_events.specs.declared.place.Point.{Point}
use Rattle.definition_text.specs.Ascii.{line_feed, left_bracket, backslash, right_bracket}

-- the limit of bytes counts no columns of a tab but the first
abbrev pub count_byte : ℕ → Point → ℕ
count_byte size point = if point.vs == 0 then more size else size

abbrev pub counting : {M : Type 0} → Body M → Body M
counting b = Keep (λ c. record c.tokenize_state {
  size = count_byte c.tokenize_state.size c.point;
  seen = c.tokenize_state.seen || not (has is_space_or_tab c.current);
}) (λ c i. refl) b

-- over a byte of the text
abbrev pub label_byte : {M : Type 0} → Body M
label_byte = On (λ b. b == backslash) (counting (Consume (Answer (next state_inline.LabelEscape))))
    (counting (Consume (Answer (next state_inline.LabelInside))))

-- over the end of the text
abbrev pub label_close : {M : Type 0} → Body M
label_close = Exit (HeldName 3) (around (HeldName 2) (Exit (HeldName 1)
    (Keep (λ c. record c.tokenize_state { connect = false }) (λ c i. refl) (Answer states.Ok))))

module _ {M : Type 0} where
  -- at a `[`
  abbrev pub label_start : Body M
  label_start =
      Byte (Answer states.Nok)
      (On (λ b. b == left_bracket)
      (Keep (λ c. record c.tokenize_state { size = 0; seen = false; connect = true }) (λ c i. refl)
      (Enter (HeldName 1) (around (HeldName 2) (Enter (HeldName 3) (Answer (next state_inline.LabelAtBreak))))))
      (Answer states.Nok))

  -- between the parts of the text
  abbrev pub label_at_break : Body M
  label_at_break =
      Byte (Answer (retry state_inline.LabelNok))
      (Test (λ c. nat_lt 999 c.tokenize_state.size) (Answer (retry state_inline.LabelNok))
      (On (λ b. b == left_bracket) (Answer (retry state_inline.LabelNok))
      (On (λ b. b == right_bracket) (Test (λ c. c.tokenize_state.seen) label_close (Answer (retry state_inline.LabelNok)))
      (On (λ b. b == line_feed) (Tries false (next state_inline.LabelEolAfter) (next state_inline.LabelNok) (retry state_inline.SpaceOrTabEolStart))
      (EnterLink (FixedName names.Data) part_link label_byte)))))

  -- after a line ending
  abbrev pub label_eol_after : Body M
  label_eol_after =
      Answer (retry state_inline.LabelAtBreak)

  -- where no label is
  abbrev pub label_nok : Body M
  label_nok =
      Keep (λ c. record c.tokenize_state { connect = false }) (λ c i. refl) (Answer states.Nok)

  -- in data
  abbrev pub label_inside : Body M
  label_inside =
      Byte (Exit (FixedName names.Data) (Answer (retry state_inline.LabelAtBreak)))
      (Test (λ c. has (λ b. (b == line_feed) || (b == left_bracket) || (b == right_bracket)) c.current || nat_lt 999 c.tokenize_state.size)
      (Exit (FixedName names.Data) (Answer (retry state_inline.LabelAtBreak)))
      label_byte)

  -- after a backslash
  abbrev pub label_escape : Body M
  label_escape =
      Byte (Answer (retry state_inline.LabelInside))
      (Test (λ c. has (λ b. (b == left_bracket) || (b == backslash) || (b == right_bracket)) c.current)
      (Keep (λ c. record c.tokenize_state { size = count_byte c.tokenize_state.size c.point }) (λ c i. refl)
      (Consume (Answer (next state_inline.LabelInside))))
      (Answer (retry state_inline.LabelInside)))
